pub mod Promise
pub mod Sheet
pub mod Sound
pub mod Timely
