pub mod Alike
pub mod Cells
pub mod Kept
pub mod Laws
pub mod Parts
pub mod Rooms
pub mod Scores
pub mod Years
