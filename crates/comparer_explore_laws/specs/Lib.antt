-- What the table holds while positions are explored in it.
pub mod HalfRounds
pub mod PartnerSums
pub mod EdgeKeys
pub mod Exploring
