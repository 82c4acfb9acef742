pub mod Sheets
pub mod Tails
