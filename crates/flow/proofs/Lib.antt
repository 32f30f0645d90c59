pub mod Answers
pub mod Beginning
pub mod Counting
pub mod Given
pub mod Loading
pub mod Looping
pub mod Plain
pub mod Running
