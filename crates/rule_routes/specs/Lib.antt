pub mod Edges
pub mod Routes
pub mod Chains
pub mod Roads
pub mod Pairs
pub mod Shortest
