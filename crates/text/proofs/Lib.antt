-- Lemmas that the proofs of the functions share; what is printed, line by line; the samples.
pub mod Decimals
pub mod Stores
pub mod Spelling
pub mod Lines
pub mod Records
pub mod RecordNumbers
pub mod Printing
pub mod Samples
