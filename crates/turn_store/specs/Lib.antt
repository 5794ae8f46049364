pub mod Holding
pub mod Turns
pub mod Slot
pub mod Passes
pub mod Calls
pub mod Fronts
