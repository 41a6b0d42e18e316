pub mod Making
pub mod Writing
pub mod Records
pub mod Compiled
pub mod Answers
