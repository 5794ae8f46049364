pub mod Numbering
pub mod Layers
pub mod Heights
