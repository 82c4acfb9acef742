pub mod Given
pub mod Plans
