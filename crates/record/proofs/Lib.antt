pub mod PlaceLaws
pub mod EntryLaws
