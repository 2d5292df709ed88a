pub mod Rows
pub mod Uniting
