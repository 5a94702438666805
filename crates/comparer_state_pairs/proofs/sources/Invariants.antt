-- The sources of the left edges before `i` are in the set.
use Rattle.std.proofs.Common.{◌≡◌}
use Rattle.game_index.specs.Reading.{task_in}
use Rattle.comparer_rank_laws.specs.Sources.{sources_to}
use Rattle.comparer_state_pairs.proofs.sources.Given as goal

abbrev pub invariant-loop-i : goal.invariant-loop-i
invariant-loop-i l = l.pairs ≡ sources_to (task_in l.index) l.lost l.i
