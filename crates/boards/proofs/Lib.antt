pub mod Assigning
pub mod Counting
