pub mod Marked
pub mod Follows
pub mod Once
pub mod Widths
