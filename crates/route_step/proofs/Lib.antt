pub mod Steps
pub mod Marks
pub mod Entering
pub mod Expanding
