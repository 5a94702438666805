-- Laws of keys, and of how their digits are divided out.
pub mod Keys
pub mod DividedOut
