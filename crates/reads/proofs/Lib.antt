pub mod Laws
pub mod Promises
pub mod Linked
