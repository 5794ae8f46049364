pub mod Memory
pub mod Limits
pub mod Contents
pub mod Agreement
pub mod Words
pub mod Slots
pub mod Fields
pub mod Cells
