pub mod Tier
pub mod Begins
pub mod Skips
pub mod GoesTo
pub mod Within
