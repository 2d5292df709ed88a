pub mod Frames
pub mod Front
pub mod Sets
pub mod RowWords
pub mod Fill
pub mod BitSearch
pub mod PairCount
