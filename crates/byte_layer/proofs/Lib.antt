pub mod Numbers
pub mod Placed
pub mod Parts
pub mod Fours
pub mod Words
