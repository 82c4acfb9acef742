pub mod Baseline
pub mod Stamps
pub mod Lent
