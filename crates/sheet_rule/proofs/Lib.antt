pub mod One
pub mod Worked
pub mod BlockFirst
