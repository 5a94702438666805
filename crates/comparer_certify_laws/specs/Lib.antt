-- What is done to a table, and read from it, where a certificate is written.
pub mod MarkedRounds
pub mod Marking
pub mod EntryRecords
