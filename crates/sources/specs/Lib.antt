pub mod Building
pub mod Outcomes
pub mod Packed
pub mod Pots
pub mod SourceTexts
pub mod Walks
