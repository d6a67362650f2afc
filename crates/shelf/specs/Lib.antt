pub mod Shelf
pub mod Outcome
