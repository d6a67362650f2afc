pub mod Laws
pub mod Renewed
pub mod Left
pub mod Promises
pub mod Linked
