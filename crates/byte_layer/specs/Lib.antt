pub mod Number
pub mod Fault
pub mod Part
