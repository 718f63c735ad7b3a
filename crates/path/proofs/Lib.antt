pub mod OnPathLaws
