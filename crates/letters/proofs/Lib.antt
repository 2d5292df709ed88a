pub mod Matching
pub mod Lanes
pub mod SetLaws
