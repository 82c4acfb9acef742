pub mod Places
pub mod Carried
pub mod Kept
pub mod Extended
pub mod Alike
pub mod Judged
