pub mod Accepted
pub mod Computed
pub mod Longest
pub mod OneAnswer
pub mod Reaches
pub mod Together
