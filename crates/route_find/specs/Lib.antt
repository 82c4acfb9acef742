pub mod Ground
pub mod Results
