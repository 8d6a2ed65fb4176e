pub mod Book
pub mod Lot
pub mod Ahead
pub mod Left
pub mod Members
pub mod Laws
