pub mod Entering
pub mod Lending
