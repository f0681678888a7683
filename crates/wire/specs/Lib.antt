pub mod Kept
pub mod Lists
pub mod Fields
pub mod Letters
pub mod Frames
pub mod Drafts
