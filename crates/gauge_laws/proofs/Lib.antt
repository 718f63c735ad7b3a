-- The laws of specs/, for the crates above.
pub mod TableLaws
pub mod RefusedLaws
pub mod FirstLaws
pub mod MovedLaws
pub mod FormLaws
pub mod TouchedLaws
pub mod TickLaws
pub mod Coincide
pub mod OneOwnLaws
