pub mod Fault
pub mod Judge
pub mod Figures
