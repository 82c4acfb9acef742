pub mod Stores
pub mod Blocks
pub mod Sets
pub mod Stacks
pub mod Points
