pub mod Answering
pub mod Taking
pub mod Through
pub mod Words
