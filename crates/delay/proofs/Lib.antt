pub mod Promises
pub mod Linked
