-- The index of a task as bytes: where its parts stand, what is read from it, and what is written.
pub mod Layout
pub mod Reading
pub mod Ranges
pub mod Transitions
pub mod Writing
pub mod Props
