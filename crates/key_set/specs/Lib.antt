-- What the functions on the set answer.
pub mod Insertions
