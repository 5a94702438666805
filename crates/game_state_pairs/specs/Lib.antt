pub mod StatePairs
