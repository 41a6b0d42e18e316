pub mod Executing
pub mod Fetching
pub mod Finding
pub mod Keeping
pub mod Renderers
pub mod Rendering
pub mod States
pub mod Stepping
