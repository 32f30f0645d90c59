pub mod Counts
pub mod Streams
pub mod Windows
