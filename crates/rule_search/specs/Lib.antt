pub mod State
pub mod Frames
pub mod Formed
