-- Lemmas that the proofs of the functions share.
pub mod EntryGains
pub mod PartWay
pub mod AnyPassed
pub mod PassResults
