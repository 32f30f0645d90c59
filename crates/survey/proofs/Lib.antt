pub mod Holds
pub mod Numbers
pub mod Parts
