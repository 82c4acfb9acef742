pub mod Areas
pub mod Checks
pub mod RecordCheck
pub mod Calls
