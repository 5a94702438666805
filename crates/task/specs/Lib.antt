-- The definitions of 01, "The task file", and refusals 1 to 10 of "Turned back, in checking order", with the history's size and
-- refusal 15 of 02; then the file with the sides exchanged, of 02.
pub mod Refusals
pub mod TaskFile
pub mod Records
pub mod TaskBytes
pub mod ExchangedFile
