pub mod Calls
pub mod Cells
pub mod Sums
