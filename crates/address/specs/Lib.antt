pub mod Address
pub mod Asked
pub mod Formula
pub mod Inverse
pub mod Offset
pub mod Owner
pub mod Printed
pub mod Run
