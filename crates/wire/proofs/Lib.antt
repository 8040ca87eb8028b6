pub mod Bodies
pub mod Filling
pub mod Numbers
pub mod Proposals
pub mod Sequences
pub mod Signing
pub mod Sizes
pub mod Writing
