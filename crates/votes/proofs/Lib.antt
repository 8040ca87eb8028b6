pub mod Weights
pub mod Sets
pub mod Agree
pub mod Grow
pub mod Small
