-- What the contracts of the records after both models cite beside the definitions of the task file.
pub mod Places
