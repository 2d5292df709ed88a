pub mod Outcome
pub mod Numbers
pub mod Decided
