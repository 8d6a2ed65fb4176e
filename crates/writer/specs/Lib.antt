pub mod Lawful
pub mod Admit
pub mod Calls
pub mod Holding
pub mod Single
