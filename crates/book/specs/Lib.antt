pub mod Fault
pub mod Command
pub mod Rows
pub mod Stands
pub mod Reading
pub mod Writing
