pub mod Changes
pub mod Restoring
pub mod Standing
pub mod AnyOrder
pub mod Mixed
pub mod Rows
