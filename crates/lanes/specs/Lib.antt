pub mod Machine
pub mod Around
pub mod Coded
pub mod Sheets
