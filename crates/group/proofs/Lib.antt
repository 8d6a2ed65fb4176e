pub mod Areas
pub mod Members
