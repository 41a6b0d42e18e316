pub mod Entries
pub mod Layers
pub mod Told
pub mod Searching
pub mod Looping
pub mod Iterating
