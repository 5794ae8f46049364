pub mod Walks
pub mod Interning
pub mod Facts
