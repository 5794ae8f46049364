pub mod Things
pub mod Turns
