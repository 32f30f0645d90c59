pub mod Begin
pub mod Life
pub mod Pair
pub mod Owning
pub mod Rooms
pub mod Sight
