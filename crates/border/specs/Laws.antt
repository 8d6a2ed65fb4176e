-- Proved facts about the definitions. Ghost members cite them as the proofs of a border's laws.
pub mod Flows
