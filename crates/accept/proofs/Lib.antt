pub mod Numbers
pub mod Outputs
pub mod WholeCommands
