pub mod Numbered
pub mod Journal
