-- What an attack asks, which edges answer it, and the first attack whose replies all lose.
pub mod Challenges
pub mod ReplySearch
pub mod Winner
