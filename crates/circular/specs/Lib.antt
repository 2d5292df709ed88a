pub mod Circular
pub mod Table
pub mod Masks
pub mod Places
pub mod SheetChecks
pub mod Accepted
pub mod Unique
