pub mod OwnedLaws
pub mod SpotLaws
pub mod CallLaws
pub mod NamedLaws
pub mod Theorems
