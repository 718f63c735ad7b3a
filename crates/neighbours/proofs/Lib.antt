-- The laws of specs/, for the proofs of this crate and of those above it.
pub mod ListLaws
pub mod ClosestLaws
pub mod SkipLaws
pub mod BesideLaws
pub mod SidesLaws
pub mod CallLaws
pub mod OneLaws
