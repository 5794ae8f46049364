pub mod Cutting
pub mod Telling
pub mod Blames
pub mod Single
pub mod Running
