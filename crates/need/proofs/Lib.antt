pub mod Operands
pub mod Trades
