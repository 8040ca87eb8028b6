pub mod Feeding
pub mod Imaging
pub mod Sealing
