-- Lemmas that the proofs of the functions share, and laws for callers.
pub mod Matchings
pub mod HistorySizes
pub mod IdCases
pub mod AttacksBySide
pub mod TestBytes
