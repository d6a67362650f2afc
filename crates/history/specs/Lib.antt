pub mod Demands
pub mod Facts
pub mod Waiting
pub mod Wrong
