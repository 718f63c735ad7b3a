-- The laws of specs/, for those above, and what is proved of readings.
pub mod EdgeLaws
pub mod DepthLaws
pub mod PatternLaws
pub mod SignedLaws
pub mod NumberLaws
pub mod UnpackLaws
pub mod PackLaws
pub mod RoundLaws
pub mod Theorems
