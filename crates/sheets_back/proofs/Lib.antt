pub mod Lined
pub mod ReadBack
pub mod Good
pub mod Short
pub mod Early
pub mod Parted
pub mod Paused
