pub mod Groups
pub mod Given
