-- How an index is written, and that what is read from it is its task.
mod AnyFromOne
mod Appended
mod EqualStrings
mod Flags
mod FirstEdges
mod IndexParts
mod IndexBytes
pub mod Indexed
