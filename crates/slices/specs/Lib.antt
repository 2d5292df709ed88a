pub mod Slices
pub mod Loaded
