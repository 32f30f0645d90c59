pub mod Bits
pub mod Judging
pub mod Stacks
pub mod Words
