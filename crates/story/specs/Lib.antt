pub mod Sums
pub mod Buffers
