pub mod Headers
pub mod Known
pub mod Windows
pub mod Words
pub mod WriteBack
