-- The laws of specs/, for the proofs of this crate and of those above it.
pub mod SeenLaws
pub mod MeansLaws
pub mod BriefLaws
