pub mod Layers
pub mod Grows
pub mod Numbered
pub mod Fitted
pub mod Rows
pub mod Started
pub mod Built
