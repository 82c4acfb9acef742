pub mod Ground
pub mod Areas
