pub mod Allow
pub mod Answers
pub mod Records
