pub mod Turns
pub mod Clears
pub mod Simulation
pub mod Searching
pub mod Routing
