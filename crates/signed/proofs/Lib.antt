-- The laws of specs/, for the crates above.
pub mod ToldLaws
pub mod EventLaws
pub mod KeyLaws
pub mod SendLaws
pub mod StepLaws
pub mod Theorems
pub mod InquiryLaws
pub mod AnsweredLaws
pub mod CaseLaws
pub mod FromLaws
