pub mod Texts
pub mod Lengths
pub mod Fronts
pub mod Marked
