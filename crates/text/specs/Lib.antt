pub mod Hexadecimal
pub mod Decimal
pub mod Splitting
pub mod Messages
