pub mod Opposites
pub mod Spans
pub mod Tests
pub mod Written
