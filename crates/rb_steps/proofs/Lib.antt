pub mod Skipping
pub mod Choosing
pub mod Parameters
pub mod Within
