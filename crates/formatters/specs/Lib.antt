pub mod Writing
pub mod ChartTexts
