pub mod Because
pub mod Reason
pub mod Statements
pub mod Cases
