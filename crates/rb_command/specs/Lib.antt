pub mod Words
pub mod Line
pub mod Seen
pub mod Rows
pub mod Reader
