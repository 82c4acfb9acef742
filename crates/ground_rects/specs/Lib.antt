pub mod Rects
pub mod Windows
pub mod Spans
