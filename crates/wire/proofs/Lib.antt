pub mod Keeping
pub mod Fronts
pub mod Cells
pub mod Digits
pub mod Letters
