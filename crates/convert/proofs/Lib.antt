-- The laws of specs/, for the proofs of this crate and of those above it.
pub mod OldLaws
pub mod HeldLaws
pub mod UsedLaws
pub mod CallLaws
pub mod RecordLaws
pub mod CacheLaws
pub mod TableLaws
pub mod ConvertLaws
