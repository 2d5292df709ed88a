pub mod Machine
pub mod Chunks
pub mod NeverWritten
