pub mod Cells
pub mod Lawful
pub mod OwnPuts
pub mod Puts
pub mod Seen
pub mod SharedPuts
