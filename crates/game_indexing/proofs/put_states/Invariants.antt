-- The states below `q` are written.
use Rattle.std.proofs.Common.{◌≡◌, take}
use mathlib.Core.List.{flat_map}
use lib.Seq.{sets}
use Rattle.game_index.specs.Writing.{state_bytes}
use Rattle.game_indexing.proofs.put_states.Given as goal

abbrev pub invariant-loop-q : goal.invariant-loop-q
invariant-loop-q l = l.out ≡ sets l.fn.out l.at (flat_map state_bytes (take l.q l.m.states))
