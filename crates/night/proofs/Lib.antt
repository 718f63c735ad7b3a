pub mod CallLaws
pub mod StepLaws
pub mod ToldLaws
pub mod ReplayLaws
pub mod MadeLaws
pub mod TraceLaws
pub mod Theorems
