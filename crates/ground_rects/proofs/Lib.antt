pub mod Edges
pub mod Axes
pub mod Windows
pub mod Rows
