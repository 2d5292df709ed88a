pub mod Bits
pub mod Below
pub mod Sizes
