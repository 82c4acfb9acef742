pub mod Measures
pub mod Ranks
pub mod Sizes
pub mod Original
pub mod Orders
pub mod Nearest
