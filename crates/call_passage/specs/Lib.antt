pub mod Passages
