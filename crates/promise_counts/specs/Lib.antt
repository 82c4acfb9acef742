pub mod Counts
pub mod Obstacles
