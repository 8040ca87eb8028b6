pub mod Choosing
pub mod Entries
pub mod Lines
pub mod Outcomes
pub mod Scans
