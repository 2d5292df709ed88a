pub mod Decimal
pub mod Wrote
