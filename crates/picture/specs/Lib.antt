pub mod Example
pub mod Picture
