pub mod Pace
pub mod Sending
pub mod Alike
pub mod Over
pub mod Drops
pub mod Prompt
