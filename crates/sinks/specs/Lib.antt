pub mod Offered
pub mod States
pub mod Sinks
pub mod SinkLaws
