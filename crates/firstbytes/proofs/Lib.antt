pub mod Bytes
pub mod Cut
pub mod Room
