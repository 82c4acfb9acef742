pub mod Forms
pub mod Patterns
pub mod Reading
pub mod Writing
pub mod Rest
