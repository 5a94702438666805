-- Which state is due stays known, and what a turn of the reader's loop comes to.
pub mod StateDueKept
pub mod Steps
