pub mod OnNumbers
pub mod KeptOn
pub mod ExtendedOn
pub mod CountsKept
pub mod JudgedKept
pub mod AlikeKept
