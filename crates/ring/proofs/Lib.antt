-- The laws of keys opposite each other, for the proofs of this crate and of those above it.
pub mod HalfLaws
pub mod TieLaws
