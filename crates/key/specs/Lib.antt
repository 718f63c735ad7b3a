pub mod Number
pub mod Around
pub mod Across
