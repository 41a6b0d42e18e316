pub mod Emits
pub mod Offers
