pub mod History
pub mod Talks
