pub mod Answers
pub mod Fleet
pub mod Join
