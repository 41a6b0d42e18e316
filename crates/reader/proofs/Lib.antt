pub mod Texts
pub mod Readings
pub mod Members
pub mod AfterBytes
pub mod Spans
pub mod Clips
