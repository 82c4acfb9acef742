-- The laws of the walk over a table of steps.
pub mod Pairs
mod Counting
