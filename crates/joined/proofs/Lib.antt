pub mod Halves
pub mod Turns
pub mod Walks
