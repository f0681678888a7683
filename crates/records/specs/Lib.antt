pub mod Tables
pub mod UserNumbers
pub mod Records
