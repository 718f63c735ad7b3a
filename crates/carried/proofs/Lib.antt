pub mod CarryLaws
pub mod BackLaws
pub mod ExactLaws
pub mod Theorems
