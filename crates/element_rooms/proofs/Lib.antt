pub mod Readings
pub mod Sized
