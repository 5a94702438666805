-- What the functions compute, in terms of the game.
pub mod AfterRound
pub mod HistorySizes
pub mod IdCases
pub mod AttacksBySide
