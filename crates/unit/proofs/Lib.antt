pub mod Switches
pub mod Causes
pub mod Decoded
pub mod Histories
