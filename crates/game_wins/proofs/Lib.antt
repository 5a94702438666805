-- Lemmas that the proofs of the functions share, and that callers use.
pub mod AllPairs
pub mod EdgeCases
pub mod SettledAttacks
pub mod SideEdges
