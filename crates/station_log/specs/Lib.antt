pub mod Asked
pub mod Bytes
pub mod Editions
pub mod Feed
pub mod Refusals
pub mod Unfinished
pub mod Words
