pub mod Recording
pub mod Play
pub mod Step
