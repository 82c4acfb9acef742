pub mod Back
pub mod Laying
pub mod Turns
