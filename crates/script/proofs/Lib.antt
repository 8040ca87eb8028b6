pub mod Ends
pub mod Sequence
pub mod OrderLists
