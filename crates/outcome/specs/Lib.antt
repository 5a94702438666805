-- The definitions of 01, "Verdict, table, certificate", and refusals 11 to 14 of "Turned back, in checking order".
pub mod Bytes
pub mod Verdicts
pub mod Certificate
pub mod Compare
pub mod Conditions
pub mod Listed
pub mod Check
pub mod Refusals
