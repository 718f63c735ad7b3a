pub mod Halving
pub mod Sought
pub mod Cases
