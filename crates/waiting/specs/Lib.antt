pub mod Place
pub mod Form
pub mod Seek
pub mod Open
pub mod Slot
pub mod Tick
pub mod Cases
pub mod Ticking
