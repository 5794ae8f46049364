pub mod Texts
pub mod Layer
pub mod Place
pub mod Height
