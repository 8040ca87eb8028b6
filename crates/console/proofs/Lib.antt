pub mod Certificates
pub mod Doing
pub mod Heard
pub mod Silent
pub mod Steps
