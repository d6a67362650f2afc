pub mod Story
pub mod Rejected
pub mod Hurried
pub mod Proud
pub mod Mute
