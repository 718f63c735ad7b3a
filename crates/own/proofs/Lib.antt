pub mod LowLaws
pub mod FormLaws
pub mod PlaceLaws
