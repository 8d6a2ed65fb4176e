pub mod Elasticity
pub mod Fields
pub mod Format
pub mod Lawful
pub mod Needing
pub mod Laws
