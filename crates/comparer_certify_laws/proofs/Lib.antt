-- Marks in a table and the records of a certificate, for the proofs of the functions that set and write them.
pub mod MarkedRounds
pub mod RisingMembers
pub mod MarkedPositions
pub mod ChangedRounds
pub mod StillSearchable
pub mod Marking
pub mod KeptStrings
pub mod RecordFilling
pub mod RankedTables
