pub mod FlatBoard
pub mod Ready
