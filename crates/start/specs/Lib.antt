pub mod Gauge
pub mod Rules
pub mod Windows
