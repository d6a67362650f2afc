pub mod Held
pub mod Later
pub mod First
pub mod Whole
pub mod Calls
