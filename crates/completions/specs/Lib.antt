pub mod Live
pub mod Completion
pub mod Judged
pub mod Steps
pub mod Together
