pub mod Receiver
pub mod Runs
pub mod Address
pub mod Data
pub mod Commands
pub mod Sending
pub mod Receiving
pub mod Decoding
