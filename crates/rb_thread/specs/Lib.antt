pub mod Family
pub mod Kins
pub mod Seats
pub mod Asking
pub mod Handing
pub mod Alive
pub mod Whose
