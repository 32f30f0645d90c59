pub mod Free
pub mod Laws
pub mod Left
pub mod Same
pub mod Trim
