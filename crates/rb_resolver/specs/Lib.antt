pub mod Names
pub mod Known
pub mod Rows
pub mod Built
