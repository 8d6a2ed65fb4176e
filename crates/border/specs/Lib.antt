pub mod Fields
pub mod Flow
pub mod Format
pub mod Lawful
pub mod Step
pub mod Stretch
pub mod Laws
