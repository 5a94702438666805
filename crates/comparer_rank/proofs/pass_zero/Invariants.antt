-- The entries before `i` have the level of no round, and the others are as they were.
use Rattle.comparer_rank.proofs.PartWay.{InPassZero}
use Rattle.comparer_rank.proofs.pass_zero.Given as goal

abbrev pub invariant-loop-i : goal.invariant-loop-i
invariant-loop-i l = InPassZero l.index.bytes l.n l.fn.table l.i l.table
