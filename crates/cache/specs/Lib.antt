pub mod Form
pub mod Place
pub mod Bytes
pub mod Change
pub mod Calls
pub mod Searching
