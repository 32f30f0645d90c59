pub mod Rules
pub mod Writer
pub mod Written
