pub mod Path
pub mod Shape
pub mod Laws
pub mod Parts
