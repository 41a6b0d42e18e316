pub mod Pots
pub mod Logs
pub mod PackedValues
pub mod PackedItems
pub mod PackedEntries
pub mod Told
pub mod Steps
pub mod PotsMade
