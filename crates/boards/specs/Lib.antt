pub mod Bounds
pub mod Seen
pub mod Tables
pub mod Tally
pub mod TruckLaws
pub mod Trucks
