pub mod Building
pub mod Loading
