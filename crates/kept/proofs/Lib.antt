pub mod Tests
pub mod Kept
pub mod Next
pub mod Waits
pub mod Fresh
