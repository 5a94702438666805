-- Laws of the column of keys in the table, of sorting it and of laying it out.
pub mod Sorted
pub mod KeyColumn
pub mod SortPasses
pub mod LayingOut
