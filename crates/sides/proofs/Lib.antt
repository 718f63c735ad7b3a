pub mod SideLaws
