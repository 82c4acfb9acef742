pub mod Stamps
pub mod Marks
pub mod Stages
