pub mod Value
pub mod Equations
pub mod Reads
pub mod Slots
pub mod ByteReads
