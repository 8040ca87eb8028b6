pub mod Vectors
pub mod PlainWords
