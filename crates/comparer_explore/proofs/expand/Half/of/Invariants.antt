-- The partners are those that the left edge leaves, up to place `i`.
use Rattle.std.proofs.Common.{◌≡◌, length, take}
use Rattle.comparer_explore_laws.specs.HalfRounds.{kept_by}
use Rattle.comparer_explore.proofs.expand.Half.of.Given as goal

abbrev pub invariant-loop-i : goal.invariant-loop-i
invariant-loop-i l = record { long : length l.partners ≡ 6; kept : take l.i l.partners ≡ take l.i (kept_by l.fn.edge.target.set 1 l.fn.p.partners) }
