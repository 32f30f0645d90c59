pub mod Answers
pub mod Bytes
pub mod Elements
pub mod Reads
pub mod Restated
