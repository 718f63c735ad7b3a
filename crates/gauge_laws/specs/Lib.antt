pub mod Coincide
pub mod Table
pub mod Touched
