pub mod Units
pub mod Switches
pub mod Answering
pub mod Calling
