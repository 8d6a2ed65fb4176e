pub mod Fields
pub mod Format
pub mod Group
pub mod Lawful
pub mod Bidding
pub mod Laws
