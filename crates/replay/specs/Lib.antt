pub mod Cells
pub mod Own
pub mod Places
pub mod Report
pub mod State
pub mod Step
