pub mod Answered
pub mod Does
pub mod Lines
pub mod Permits
pub mod Requested
pub mod Seen
pub mod Stands
