pub mod Left
pub mod Lines
pub mod Spaced
