pub mod Cells
pub mod Below
pub mod Bits
pub mod Small
pub mod Lists
pub mod Ranges
