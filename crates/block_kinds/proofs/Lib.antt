pub mod Eights
pub mod Stored
pub mod Naming
pub mod Within
pub mod Building
pub mod Texts
pub mod Trying
