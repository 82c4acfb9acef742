pub mod Kept
pub mod Finishing
