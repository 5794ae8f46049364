pub mod Known
pub mod Sorts
pub mod Leaving
pub mod Gathers
pub mod Moves
pub mod Gathered
pub mod Reach
pub mod Absent
