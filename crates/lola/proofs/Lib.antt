pub mod Stack
pub mod TreeReads
pub mod ValueLaws
