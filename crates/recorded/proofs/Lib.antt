pub mod Steps
pub mod Lines
pub mod Bad
pub mod Counted
pub mod Theorems
pub mod Told
pub mod Same
