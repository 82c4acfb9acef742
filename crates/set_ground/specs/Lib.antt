pub mod Ground
