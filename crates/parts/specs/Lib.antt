pub mod Fed
pub mod Image
pub mod Keyed
pub mod Meaning
pub mod Stamp
