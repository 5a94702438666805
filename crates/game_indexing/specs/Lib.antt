-- What an index of a task gives.
pub mod Indexed
