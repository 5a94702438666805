-- Lemmas that the proofs of the functions share.
pub mod EveryRegister
