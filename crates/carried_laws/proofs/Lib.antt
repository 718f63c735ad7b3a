-- The laws of specs/.
pub mod SaysLaws
pub mod Theorems
