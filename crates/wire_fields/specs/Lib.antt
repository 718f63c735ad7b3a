pub mod Kinds
pub mod Message
pub mod Places
pub mod Reading
pub mod Refusals
