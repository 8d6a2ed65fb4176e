pub mod Order
pub mod laws
