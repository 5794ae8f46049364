pub mod Mentions
pub mod Closure
pub mod Sharing
pub mod Laws
