pub mod RowLaws
pub mod ListLaws
pub mod ArrayLaws
pub mod Whole
