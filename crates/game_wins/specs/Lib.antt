-- What the functions compute, in terms of the game and of the table's bytes.
pub mod Judgement
pub mod Wins
