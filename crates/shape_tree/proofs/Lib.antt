pub mod Kept
pub mod Log
pub mod Trees
pub mod Lookup
pub mod Made
pub mod Grown
pub mod Read
pub mod Indexed
