-- The laws of specs/, for the proofs of this crate and of those above it.
pub mod PlaceLaws
pub mod NewLaws
pub mod WalkLaws
pub mod EditLaws
pub mod TickLaws
pub mod FormLaws
pub mod KeptLaws
pub mod RoundLaws
pub mod SeekLaws
pub mod Cases
