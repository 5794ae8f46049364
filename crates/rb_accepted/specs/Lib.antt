pub mod Unbuilt
pub mod Coded
pub mod Laws
