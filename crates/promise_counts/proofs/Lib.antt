pub mod SameCalls
pub mod Obstacles
