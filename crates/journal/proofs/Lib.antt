pub mod Turning
pub mod Filling
