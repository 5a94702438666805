-- What a pass over the table finds: levels of rounds; and where a pass has to look.
pub mod Levels
pub mod EntryRows
pub mod Sources
