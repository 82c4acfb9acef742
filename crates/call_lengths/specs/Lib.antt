pub mod Lengths
pub mod Lent
pub mod Same
