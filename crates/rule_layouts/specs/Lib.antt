pub mod Boards
pub mod Inputs
pub mod Flat
pub mod Explore
pub mod Walls
pub mod Judge
pub mod Fits
pub mod Regular
