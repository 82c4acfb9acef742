pub mod Stored
pub mod Whole
pub mod Visits
pub mod Stepping
pub mod Inside
