pub mod Ready
pub mod Board
