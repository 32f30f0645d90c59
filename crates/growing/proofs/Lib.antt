pub mod Adding
pub mod Calls
pub mod Growing
