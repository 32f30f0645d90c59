pub mod Asked
pub mod Bytes
pub mod Listed
pub mod Runs
