pub mod Allowing
pub mod Given
