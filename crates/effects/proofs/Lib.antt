pub mod Sharing
pub mod Rounding
pub mod Done
pub mod Front
