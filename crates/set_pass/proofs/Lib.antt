pub mod Nearby
pub mod Passing
pub mod Lifting
pub mod Routed
pub mod Allowing
