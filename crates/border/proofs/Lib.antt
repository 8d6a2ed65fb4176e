pub mod Operands
pub mod Rows
pub mod Steps
pub mod Stretches
