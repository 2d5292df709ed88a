pub mod Masks
pub mod Matching
pub mod Sets
