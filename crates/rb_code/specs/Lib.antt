pub mod Erase
pub mod Layout
pub mod Dispatch
pub mod Resolved
pub mod Stands
