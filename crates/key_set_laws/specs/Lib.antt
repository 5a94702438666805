-- A set of keys in the lent table, and how it grows.
pub mod HashChains
pub mod Bits
pub mod Stored
pub mod Growth
