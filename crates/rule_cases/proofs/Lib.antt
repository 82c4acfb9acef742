pub mod Marked
pub mod Further
pub mod TwoTables
pub mod Lengths
