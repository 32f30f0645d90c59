pub mod Asked
pub mod Layout
pub mod Powers
pub mod Sizes
