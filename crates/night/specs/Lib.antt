pub mod Step
pub mod Told
pub mod Replay
pub mod Statements
