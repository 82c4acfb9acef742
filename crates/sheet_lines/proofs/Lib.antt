pub mod Standing
pub mod Readers
pub mod Parts
pub mod Allowed
