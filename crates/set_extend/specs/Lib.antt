pub mod Spots
pub mod Touch
pub mod Join
