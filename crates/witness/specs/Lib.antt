pub mod Facts
pub mod Shift
