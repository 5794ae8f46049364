pub mod Edge
pub mod Memory
pub mod Stream
pub mod Transfer
