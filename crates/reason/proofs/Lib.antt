pub mod ReasonLaws
pub mod Theorems
pub mod CaseLaws
