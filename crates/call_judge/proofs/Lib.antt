pub mod Choosing
pub mod Judgement
