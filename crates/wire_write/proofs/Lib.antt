pub mod PutLaws
pub mod WriteLaws
pub mod PieceLaws
