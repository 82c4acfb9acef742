pub mod Laying
pub mod Looks
pub mod Sights
pub mod Turns
pub mod Seeking
