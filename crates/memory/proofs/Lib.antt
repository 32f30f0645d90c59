pub mod Bytes
pub mod Calls
pub mod Copies
pub mod Overwritten
pub mod Pairs
pub mod Places
pub mod ReadBack
pub mod Restated
