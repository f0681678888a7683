pub mod Entries
pub mod ReadBack
pub mod Ends
pub mod Fitting
pub mod FieldsRead
pub mod OnlyWritten
