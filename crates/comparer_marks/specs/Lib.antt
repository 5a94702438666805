-- What is done to the rounds of all entries.
pub mod Scaling
