pub mod Keyed
pub mod Posed
