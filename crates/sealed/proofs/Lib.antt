pub mod Found
pub mod Turns
pub mod Gathering
pub mod Splitting
