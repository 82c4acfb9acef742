pub mod Traces
pub mod Walks
