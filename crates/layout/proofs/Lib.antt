pub mod Powers
pub mod Rows
pub mod Sizes
pub mod Window
