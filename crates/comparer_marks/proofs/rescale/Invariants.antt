-- The rounds of the first `i` entries are changed.
use Rattle.std.proofs.Common.{ℕ, ◌≡◌}
use Rattle.comparer_certify_laws.specs.Marking.{changed}
use Rattle.comparer_marks.specs.Scaling.{Computes}
use Rattle.comparer_marks.proofs.rescale.Given as goal

abbrev pub invariant-loop-i : goal.invariant-loop-i
invariant-loop-i g l = (f : ℕ → ℕ) → Computes (goal.F-post g l.scale) f → l.table ≡ changed f l.i l.fn.table
