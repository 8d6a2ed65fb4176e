pub mod Limit
pub mod Side
pub mod Field
pub mod Named
