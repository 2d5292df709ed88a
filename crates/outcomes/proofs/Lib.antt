pub mod Decisions
pub mod NumberLaws
