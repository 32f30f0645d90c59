pub mod Around
pub mod Channels
pub mod FourReads
pub mod InLine
pub mod Words
