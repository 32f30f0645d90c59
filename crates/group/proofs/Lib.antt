pub mod Firsts
pub mod Modes
pub mod Places
pub mod State
