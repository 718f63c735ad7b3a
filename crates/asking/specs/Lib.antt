pub mod Ids
pub mod Asking
