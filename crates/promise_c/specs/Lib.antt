pub mod PromiseOn
pub mod LongerOn
pub mod CountsOn
pub mod JudgedOn
pub mod AlikeOn
