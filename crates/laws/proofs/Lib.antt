pub mod Below
pub mod Bits
pub mod Choice
pub mod Masks
pub mod Table
