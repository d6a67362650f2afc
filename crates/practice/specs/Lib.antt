pub mod Carried
pub mod Whole
