-- The table has the level of the rounds before k, its spare bytes are as they were, no position is lost before with other states
-- than those losing, and pass k has to look at no other states than those worth it. No position has more rounds than there are
-- positions, so k is at most one more.
use Rattle.std.proofs.Common.{◌≡◌, ◌+◌, ◌*◌, ◌-◌, ◌≤◌, length, drop}
use Rattle.listing.specs.Widths.{entry_width}
use Rattle.comparer_rank.specs.RankPasses.{Ready}
use Rattle.comparer_rank.proofs.rank.Given as goal

abbrev pub invariant-loop-next : goal.invariant-loop-next
invariant-loop-next l = record {
  few : l.k ≤ l.n + 1;
  long : length l.table ≡ length l.initial.table;
  rest : drop (l.n * entry_width) l.table ≡ drop (l.n * entry_width) l.initial.table;
  ready : Ready l.index.bytes l.k l.n l.table l.losing l.worth;
}

abbrev pub decreases-loop-next : goal.decreases-loop-next
decreases-loop-next l = l.n + 1 - l.k
