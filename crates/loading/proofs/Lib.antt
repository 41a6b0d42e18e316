pub mod Parts
mod Rising
mod Wholes
mod Loads
