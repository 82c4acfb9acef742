pub mod Apart
pub mod Marking
