pub mod Parts
pub mod Outcome
