pub mod Copying
pub mod Killing
pub mod Magnitudes
pub mod Order
pub mod Patterns
