pub mod Costs
pub mod Keys
pub mod Measures
