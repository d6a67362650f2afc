pub mod Written
pub mod Feeds
