pub mod Listing
pub mod Closest
pub mod Where
pub mod Calls
