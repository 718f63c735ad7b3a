-- The laws of specs/, for those above.
pub mod StepLaws
pub mod OrderLaws
pub mod MembersLaws
pub mod ApplyLaws
pub mod SizeLaws
pub mod Theorems
