pub mod EachEntry
pub mod TextLaws
