pub mod Changes
pub mod Marks
pub mod Midnights
