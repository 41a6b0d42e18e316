pub mod Kinds
pub mod Values
pub mod Cells
pub mod Jumps
pub mod Supplied
pub mod Shown
pub mod Stores
