pub mod Lent
pub mod Pass
pub mod Maps
pub mod Allowed
pub mod Same
