pub mod FromLog
pub mod Lines
pub mod Months
