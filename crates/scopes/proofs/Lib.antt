mod Finds
mod Built
mod Turns
mod Stacks
pub mod Keeping
pub mod Steps
