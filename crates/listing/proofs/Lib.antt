-- Laws of words, of positions by their numbers, and of look-ups, for the proofs of the functions and for callers.
pub mod Digits
pub mod WordLaws
pub mod PositionNumbers
pub mod Placing
pub mod Halving
