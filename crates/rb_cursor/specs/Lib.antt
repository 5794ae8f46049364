pub mod Class
pub mod State
pub mod Scopes
pub mod Word
pub mod Here
