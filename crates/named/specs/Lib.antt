pub mod Call
pub mod Spots
pub mod Places
pub mod Statements
