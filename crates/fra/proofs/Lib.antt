-- Lemmas that the proofs of the functions share, and laws for callers.
pub mod RegisterSets
pub mod Partners
pub mod HeldNumbers
