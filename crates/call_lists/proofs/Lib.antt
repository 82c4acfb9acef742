pub mod Tests
pub mod Joins
pub mod Built
pub mod Turns
