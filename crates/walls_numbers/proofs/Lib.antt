pub mod Fifty
pub mod Signed
pub mod Lent
pub mod Left
pub mod Accepted
pub mod Rows
pub mod Ranks
