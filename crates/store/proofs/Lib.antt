mod Keys
pub mod Maps
pub mod Lists
pub mod Cells
pub mod Stores
mod Ordered
pub mod Jumps
