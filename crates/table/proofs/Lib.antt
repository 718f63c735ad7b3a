-- The laws of specs/, for the proofs of this crate and of those above it.
pub mod RowLaws
pub mod EditLaws
pub mod ExchangeLaws
pub mod PieceLaws
pub mod SeekLaws
