mod Texts
pub mod Steps
