pub mod Causes
pub mod Cells
pub mod Group
pub mod Masks
pub mod Modes
pub mod Proc
