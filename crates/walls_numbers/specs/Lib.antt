pub mod Numbers
pub mod Left
pub mod Lent
pub mod Ranked
