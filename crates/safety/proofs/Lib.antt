pub mod Reading
pub mod Histories
pub mod Ledgers
pub mod Grounds
pub mod Steps
pub mod Runs
pub mod Agreement
pub mod Boards
