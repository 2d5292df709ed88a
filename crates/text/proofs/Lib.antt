pub mod VerdictLaws
pub mod TallyLaws
