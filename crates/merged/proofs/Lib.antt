-- The laws of specs/, for those above.
pub mod StepLaws
pub mod WriteLaws
