pub mod Handed
pub mod Ledgers
