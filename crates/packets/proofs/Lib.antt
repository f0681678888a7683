pub mod Framing
pub mod Colons
pub mod Tables
pub mod Readers
pub mod Decoding
