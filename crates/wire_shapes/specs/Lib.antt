pub mod Field
pub mod Shapes
