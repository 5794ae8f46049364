pub mod Paths
pub mod Places
pub mod Names
pub mod Stores
pub mod Sames
