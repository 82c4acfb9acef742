pub mod Example
pub mod Raising
pub mod ThroughC
pub mod Counted
pub mod Ground
