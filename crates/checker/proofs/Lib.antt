pub mod Rests
pub mod Statements
pub mod Wholes
pub mod TreeHeads
pub mod There
pub mod Parts
pub mod Walking
pub mod WholeThere
