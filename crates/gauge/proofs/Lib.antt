-- The laws of specs/, for the proofs of this crate and of those above it.
pub mod ReceiveLaws
pub mod SendLaws
pub mod CountLaws
pub mod NearestLaws
pub mod SearchLaws
