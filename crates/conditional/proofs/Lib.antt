pub mod Entries
pub mod Rows
pub mod Surveys
pub mod Tests
