-- What the functions on the table answer.
pub mod ExploreAnswers
pub mod HalfRounds
pub mod Sources
pub mod Sums
