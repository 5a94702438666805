-- Keys of positions, sized to a task.
pub mod Keys
