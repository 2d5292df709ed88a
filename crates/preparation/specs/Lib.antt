pub mod Searched
pub mod Search
