pub mod Writing
pub mod Pieces
pub mod Sent
pub mod Rows
pub mod Making
