pub mod Rests
pub mod Whole
pub mod Templates
pub mod TreeHeads
pub mod There
