pub mod Asked
pub mod Conditions
pub mod Spans
