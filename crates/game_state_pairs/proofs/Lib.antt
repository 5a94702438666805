pub mod PairMembers
