pub mod Channels
pub mod Editions
pub mod Gauge
pub mod New
pub mod Readiness
