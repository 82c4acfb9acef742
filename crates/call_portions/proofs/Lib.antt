pub mod Found
pub mod Stepped
