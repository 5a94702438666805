-- What the laws and the functions above them speak of, beside the definitions.
pub mod Joint
