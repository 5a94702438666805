-- The definitions of 01 that speak of models and of the symbolic game, in 01's order; then the sides exchanged, of 02.
pub mod Lists
pub mod Registers
pub mod Model
pub mod Rules
pub mod Position
pub mod Game
pub mod AttackNumbers
pub mod Reach
pub mod Valid
pub mod Exchange
