pub mod Least
pub mod Shapes
