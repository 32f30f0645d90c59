pub mod Bulk
pub mod Moves
pub mod Rectangles
pub mod Rows
