pub mod Own
pub mod Low
