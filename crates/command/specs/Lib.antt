pub mod Commands
pub mod Format
pub mod Kinds
pub mod Known
pub mod Table
