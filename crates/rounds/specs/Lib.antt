pub mod Rows
pub mod Round
