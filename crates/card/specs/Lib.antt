pub mod Layout
pub mod Image
pub mod Shape
pub mod Valid
pub mod Values
