-- What is read of an index, and laws of the edges' ranges, for the proofs of the functions and for callers.
pub mod Reading
pub mod Ranges
pub mod EdgeRanges
