pub mod Words
pub mod Receive
pub mod Counts
pub mod Send
pub mod Nearest
pub mod Searching
pub mod Ours
pub mod Converting
