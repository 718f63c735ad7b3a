pub mod TextLaws
pub mod StreamLaws
pub mod RoomLaws
pub mod Theorems
