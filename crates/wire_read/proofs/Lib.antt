pub mod ReaderLaws
pub mod OneLaws
