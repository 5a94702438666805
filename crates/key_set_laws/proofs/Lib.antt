-- Laws of a set of keys in the table, of how it grows by wanted keys, and of its keys in order.
pub mod HashChains
pub mod Growth
pub mod Stored
pub mod Chains
pub mod Bits
pub mod Flags
pub mod EmptySet
pub mod Permuted
pub mod InOrder
