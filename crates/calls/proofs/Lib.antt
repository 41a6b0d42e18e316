pub mod Wording
pub mod Numbers
