pub mod Evaluating
pub mod Extending
