-- Laws of the set of keys, of how it grows by the keys of successors, and of when exploring has ended.
pub mod HalfRounds
pub mod PartnerSums
pub mod Undropped
pub mod RoundKeys
pub mod EdgeKeys
pub mod PairKeys
pub mod Explored
pub mod Exploring
