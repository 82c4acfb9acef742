pub mod Terms
pub mod Turned
