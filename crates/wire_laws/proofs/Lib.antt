pub mod Certificates
pub mod Messages
