pub mod Bare
pub mod Passing
