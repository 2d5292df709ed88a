pub mod Serving
pub mod LineEnds
