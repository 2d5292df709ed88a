pub mod Lines
pub mod Blank
pub mod Index
pub mod Scan
pub mod Meaning
