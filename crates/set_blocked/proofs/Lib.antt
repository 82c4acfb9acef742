pub mod Without
pub mod Members
