pub mod Exits
pub mod Keys
pub mod Sums
pub mod Plains
pub mod Lists
pub mod Maps
pub mod Starts
pub mod Wholes
