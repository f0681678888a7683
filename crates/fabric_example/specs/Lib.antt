pub mod Patches
pub mod Piles
