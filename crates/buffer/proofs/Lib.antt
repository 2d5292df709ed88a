pub mod DecimalLaws
pub mod WroteLaws
pub mod PlacedLaws
