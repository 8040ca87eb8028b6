pub mod Adds
pub mod Lists
pub mod Messages
pub mod Shown
pub mod Tries
