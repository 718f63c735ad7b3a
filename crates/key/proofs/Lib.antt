-- The laws of specs/, for the proofs of this crate and of those above it.
pub mod OrderLaws
pub mod DifferenceLaws
pub mod KeyLaws
pub mod PlaceLaws
pub mod RingLaws
pub mod AroundLaws
