-- The pairs of the entries before `i` are in the set.
use Rattle.std.proofs.Common.{◌≡◌}
use Rattle.comparer_rank_laws.specs.Sources.{lost_pairs}
use Rattle.comparer_state_pairs.proofs.lost_pairs.Given as goal

abbrev pub invariant-loop-i : goal.invariant-loop-i
invariant-loop-i l = l.lost ≡ lost_pairs l.table l.from l.below l.i
