pub mod PutsLaws
pub mod ChoiceLaws
pub mod InputLaws
