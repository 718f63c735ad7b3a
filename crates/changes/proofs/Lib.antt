-- The laws of specs/, for those above.
pub mod LentLaws
pub mod Theorems
pub mod CaseLaws
