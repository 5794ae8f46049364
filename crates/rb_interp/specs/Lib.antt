pub mod Answers
pub mod Calls
pub mod Going
pub mod Texts
pub mod Top
pub mod Walks
