pub mod Quorum
pub mod Votes
pub mod Small
