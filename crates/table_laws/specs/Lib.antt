-- The lent table (01, "Verdict, table, certificate") while positions are found and sorted, and when they are laid out.
pub mod Sorted
pub mod Table
pub mod SortPasses
