-- The edges below `k` are written.
use Rattle.std.proofs.Common.{◌≡◌, take}
use mathlib.Core.List.{flat_map}
use lib.Seq.{sets}
use Rattle.game_index.specs.Writing.{edge_entry}
use Rattle.game_indexing.proofs.put_edges.Given as goal

abbrev pub invariant-loop-k : goal.invariant-loop-k
invariant-loop-k l = l.out ≡ sets l.fn.out l.at (flat_map (edge_entry l.m) (take l.k l.m.edges))
