pub mod Crossing
pub mod Number
pub mod Told
