pub mod Blanks
pub mod Fitting
pub mod Indexing
pub mod Masks
pub mod Scanning
pub mod Standing
