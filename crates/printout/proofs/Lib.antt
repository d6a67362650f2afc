pub mod Refusals
pub mod Theorems
pub mod Fits
pub mod Tells
pub mod Lent
