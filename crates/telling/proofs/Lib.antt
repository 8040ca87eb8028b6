pub mod Growing
pub mod Telling
pub mod Taking
pub mod Reporting
