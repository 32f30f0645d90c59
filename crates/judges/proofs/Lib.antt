pub mod Buffers
pub mod Joined
pub mod Valid
pub mod Windows
