pub mod Waiting
pub mod Counting
pub mod Ending
pub mod Tabled
pub mod Taking
pub mod Fields
pub mod Freeing
