pub mod Answers
pub mod Lease
pub mod Midnights
pub mod Promises
pub mod Score
