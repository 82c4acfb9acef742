pub mod Movers
