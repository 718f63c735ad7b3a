pub mod Listed
pub mod Statements
pub mod Cases
