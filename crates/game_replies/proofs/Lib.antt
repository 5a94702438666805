-- Laws of the search for replies and of attacks that win, for the proofs of the functions and for callers.
pub mod ReplySearch
pub mod AttackReplies
pub mod SameWinner
