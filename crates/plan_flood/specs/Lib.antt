pub mod Rooms
pub mod Flood
