-- Proved facts about the definitions.
pub mod Orders
