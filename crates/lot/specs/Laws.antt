-- Proved facts about the definitions. Ghost members cite them as the proofs of a lot's laws.
pub mod Ring
pub mod Sums
pub mod Tables
pub mod Named
pub mod Joins
pub mod Tests
pub mod Singles
pub mod Exclusives
pub mod Trades
pub mod Limits
