pub mod Example
pub mod Patches
pub mod Pictures
pub mod Spots
