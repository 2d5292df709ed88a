pub mod Outputs
pub mod AllOutputs
pub mod Packing
