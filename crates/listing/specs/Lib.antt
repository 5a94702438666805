-- Records of positions in bytes: how they are laid out, and where a position stands among them.
pub mod Widths
pub mod Words
pub mod Digits
pub mod Listing
pub mod Lookup
