pub mod Refusals
pub mod Remarks
pub mod Shapes
pub mod Added
pub mod Shown
pub mod Run
pub mod Accepting
