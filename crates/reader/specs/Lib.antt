pub mod Refusals
pub mod Fields
pub mod Heads
pub mod AfterByte
pub mod Forms
pub mod Meanings
pub mod Verdicts
