pub mod Forms
pub mod Drafting
