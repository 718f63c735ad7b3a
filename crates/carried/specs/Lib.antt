pub mod Whole
pub mod Carry
pub mod Take
pub mod Statements
