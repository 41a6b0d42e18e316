pub mod Codes
pub mod Entries
pub mod Held
pub mod Writing
