pub mod Pushing
pub mod Places
mod Blames
pub mod Calls
mod Texts
pub mod Steps
