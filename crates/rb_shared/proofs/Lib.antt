pub mod Runs
pub mod Joins
pub mod Locks
pub mod Slots
pub mod Freed
pub mod Examples
pub mod Placed
