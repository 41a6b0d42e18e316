pub mod Pushing
pub mod Calling
pub mod Emitting
