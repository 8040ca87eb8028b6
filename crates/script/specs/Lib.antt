pub mod Faults
pub mod Arguments
pub mod OrderFields
pub mod Boards
pub mod Commands
pub mod Lines
