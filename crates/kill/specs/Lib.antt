pub mod Answers
pub mod Kill
pub mod Through
