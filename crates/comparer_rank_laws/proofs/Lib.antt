-- Laws of levels, of tables in which some entries have new rounds, of look-ups in them, and of where a pass has to look.
pub mod Levels
pub mod EntryRows
pub mod PositionsKept
pub mod RisingPlaces
pub mod Sources
pub mod FewPositions
