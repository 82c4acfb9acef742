pub mod Pattern
pub mod Storing
