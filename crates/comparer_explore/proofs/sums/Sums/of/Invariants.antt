-- The numbers are those of the partners from register `i` on.
use Rattle.comparer_explore.specs.Sums.{partners_in}
use Rattle.comparer_explore.proofs.SumsFrom.{From}
use Rattle.comparer_explore.proofs.sums.Sums.of.Given as goal

abbrev pub invariant-loop-i : goal.invariant-loop-i
invariant-loop-i l = From (partners_in l.fn.radix l.fn.p) l.fn.radix.registers l.word l.place l.adds l.i
