pub mod Covers
pub mod Sessions
pub mod Standing
