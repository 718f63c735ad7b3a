pub mod HalvingLaws
pub mod SeekLaws
pub mod CaseLaws
