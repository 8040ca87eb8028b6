pub mod Arrays
pub mod Blocks
pub mod KeyBlocks
pub mod Padding
pub mod Seals
pub mod Steps
