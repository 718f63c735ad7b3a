pub mod Seen
pub mod Means
