pub mod Bytes
pub mod Format
pub mod Read
pub mod Written
pub mod Parts
pub mod Canon
