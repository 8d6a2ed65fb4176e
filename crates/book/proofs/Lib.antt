pub mod Steps
pub mod Trip
