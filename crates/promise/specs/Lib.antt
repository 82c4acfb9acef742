pub mod Promise
pub mod Longer
pub mod Judging
pub mod Alike
