pub mod Fault
pub mod Shape
