pub mod Events
pub mod Statements
pub mod Answered
pub mod Cases
pub mod From
