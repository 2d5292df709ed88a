pub mod Layers
pub mod Joining
pub mod Searching
pub mod Preparing
pub mod Front
