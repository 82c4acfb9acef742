pub mod Cut
pub mod Lent
