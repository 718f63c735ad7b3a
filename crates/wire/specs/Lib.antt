pub mod Statements
pub mod Sending
pub mod Code
