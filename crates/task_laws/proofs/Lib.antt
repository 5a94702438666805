-- The laws of the task file: `read-exactly` (ReadExactly), `read-valid` and `read_limits` (ReadValid), `refused-exactly`
-- (FileRefusals), `exchanged_is_read` (ExchangedFile). The other files lead up to them.
pub mod SeveralTests
pub mod RefusalNumbers
pub mod RegisterBits
pub mod Arrays
pub mod RestOfFile
pub mod RunsAndHalts
pub mod Checks
pub mod Models
pub mod RecordsRead
pub mod ReadValid
pub mod Ties
pub mod HeldAtStart
pub mod Judging
pub mod RecordSteps
pub mod FileRefusals
pub mod WritableRead
pub mod ReadExactly
pub mod ReadAnswers
pub mod ExchangedFile
