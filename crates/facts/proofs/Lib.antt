pub mod Row
pub mod Sizes
pub mod Wallet
pub mod Checking
pub mod Storage
pub mod Activation
pub mod Facts
pub mod Blind
