pub mod Writing
pub mod Parts
pub mod Loads
pub mod Formats
pub mod Rows
pub mod Arms
pub mod Meanings
