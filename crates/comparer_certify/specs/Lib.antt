-- What the functions compute, in terms of the table's bytes and of the game.
pub mod RecordFields
pub mod CertifyAnswers
