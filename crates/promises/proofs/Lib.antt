pub mod Support
pub mod ReaderPromises
pub mod AnswerNumbers
pub mod ComparerPromises
pub mod CheckerPromises
pub mod BufferSizes
pub mod Kept
pub mod Both
