-- What the contracts of edge records cite beside the definitions of the task file.
pub mod Ruled
