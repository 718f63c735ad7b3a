pub mod Wrong
pub mod Lists
