-- The edges below `k` are passed, and the first edges of the codes below `next` are written.
use Rattle.std.proofs.Common.{◌≡◌}
use mathlib.Core.List.{map}
use lib.Seq.{sets}
use Rattle.fra.specs.Lists.{count}
use Rattle.game_index.specs.Ranges.{first_edge}
use Rattle.game_indexing.proofs.FirstEdges.{Passed}
use Rattle.game_indexing.proofs.put_firsts.Given as goal

abbrev pub invariant-loop-k : goal.invariant-loop-k
invariant-loop-k l = Passed l.m l.k l.next × (l.out ≡ sets l.fn.out l.at (map (first_edge l.m) (count 0 l.next)))
