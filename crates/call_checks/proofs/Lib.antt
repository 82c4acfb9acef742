pub mod Asked
pub mod Grouped
pub mod Placed
pub mod Passed
