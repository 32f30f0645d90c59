pub mod Asked
pub mod Conditional
