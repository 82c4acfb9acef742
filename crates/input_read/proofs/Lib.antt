pub mod Bytes
pub mod Reading
