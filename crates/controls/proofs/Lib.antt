-- The laws of specs/.
pub mod ShutLaws
pub mod WrongLaws
pub mod ListsLaws
