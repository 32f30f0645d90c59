pub mod Answers
pub mod Cases
pub mod Looping
pub mod Plain
pub mod Store
