pub mod Text
pub mod Stream
pub mod Room
pub mod Statements
