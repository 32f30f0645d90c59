pub mod Corners
pub mod InLine
pub mod Superfine
