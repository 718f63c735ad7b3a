pub mod ClosestLaws
