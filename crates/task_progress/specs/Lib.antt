-- What the contracts of records cite beside the definitions of the task file.
pub mod Due
