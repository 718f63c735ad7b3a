pub mod Depth
pub mod Balance
pub mod Reading
pub mod Unpack
pub mod Pack
pub mod Numbers
pub mod Kinds
pub mod Statements
