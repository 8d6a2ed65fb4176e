pub mod Balance
pub mod Worths
pub mod Accepted
