pub mod Whole
pub mod Caps
