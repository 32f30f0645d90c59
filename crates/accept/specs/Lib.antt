pub mod AtWord
pub mod Whole
