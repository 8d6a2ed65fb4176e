-- Proved facts about lots made of lots, which ghost members cite.
pub mod Slices
