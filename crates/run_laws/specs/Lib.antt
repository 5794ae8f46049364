pub mod Doing
pub mod Laws
