pub mod Corners
pub mod Grid
