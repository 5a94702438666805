-- The text that `compare` prints, and how it stands in a lent line.
pub mod Text
pub mod LentLine
