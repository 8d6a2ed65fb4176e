pub mod Payment
pub mod Statement
