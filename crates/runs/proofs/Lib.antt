-- The laws of its loops and of parts that are lent on, for the proofs of this crate.
pub mod TurnLaws
pub mod LentLaws
