pub mod Touching
pub mod Spots
pub mod Along
pub mod Joining
pub mod Rows
