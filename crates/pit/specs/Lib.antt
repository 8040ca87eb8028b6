pub mod Told
pub mod Seats
pub mod Pits
pub mod Troubles
