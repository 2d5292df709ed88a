pub mod Table
pub mod Longest
pub mod Reaches
pub mod Together
