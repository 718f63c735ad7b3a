pub mod Record
pub mod Entry
