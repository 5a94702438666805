-- What several proofs show of answers.
mod Visited
mod Explores
pub mod HalfRounds
mod Sources
mod PartnerDigits
mod EdgeSums
mod SumsFrom
mod RoundDigits
