-- What passes over the table do to it.
pub mod RankPasses
