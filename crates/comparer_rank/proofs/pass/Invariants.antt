-- The entries before `i` have the level of k rounds, the others that of one round fewer, and `marked` says whether one of those
-- before `i` has rank k.
use Rattle.std.proofs.Common.{◌≡◌, drop}
use mathlib.Core.Bool.{◌||◌}
use Rattle.fra.specs.Lists.{any}
use Rattle.game_index.specs.Reading.{task_in, rules_in}
use Rattle.comparer_rank_laws.specs.Levels.{ranked}
use Rattle.comparer_rank.specs.RankPasses.{reached_in, ranks_in}
use Rattle.comparer_rank.proofs.PartWay.{InPass}
use Rattle.comparer_rank.proofs.pass.Given as goal

abbrev pub invariant-loop-i : goal.invariant-loop-i
invariant-loop-i l = record {
  part : InPass l.index.bytes l.k l.n l.fn.table l.i l.table;
  seen : ranks_in l.index.bytes l.k ≡ l.marked || any (ranked (rules_in l.index.bytes) (task_in l.index.bytes) l.k) (drop l.i (reached_in l.index.bytes));
}
