pub mod WholeLines
pub mod Feeding
pub mod Chunks
pub mod OneText
pub mod NeverWritten
