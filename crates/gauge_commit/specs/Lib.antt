pub mod Sending
pub mod Replies
