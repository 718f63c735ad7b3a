pub mod Formed
pub mod Call
