pub mod Alternatives
pub mod Parts
pub mod Goes
pub mod Arms
pub mod Modified
