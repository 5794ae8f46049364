pub mod ScopeLemmas
pub mod Classes
pub mod Steps
