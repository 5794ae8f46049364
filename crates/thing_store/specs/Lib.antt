pub mod Kept
pub mod Fields
pub mod Counted
