pub mod PayloadLaws
