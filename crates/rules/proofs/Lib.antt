pub mod Fitting
pub mod Judging
pub mod Readable
pub mod Room
pub mod Rule
