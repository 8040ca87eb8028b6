pub mod Calls
pub mod Lawful
pub mod Punctual
pub mod Reckoned
pub mod Run
pub mod Same
pub mod Taken
pub mod Tests
