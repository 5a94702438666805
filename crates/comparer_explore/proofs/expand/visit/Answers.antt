-- A key that is added is one entry more.
use Rattle.std.proofs.Common.{ℕ, ◌+◌, ◌≤◌, ◌≡◌, Bool, true, false, List, add-one, arith}
use Rattle.std.proofs.Math.Nat.{add-zero}
use Rattle.std.specs.Prelude.{Ok}
use mir.Val.{bool_byte}
use Rattle.outcome.specs.Compare.{capacity}
use Rattle.key_set.specs.Insertions.{Inserts}
use Rattle.key_set_laws.specs.Growth.{Completes}
use Rattle.comparer_explore.proofs.expand.visit.Goals as goal

bit : (b : Bool) → bool_byte b ≤ 1
bit true = omega arith
bit false = omega arith

counted : (space n key : ℕ) (old new : List ℕ) (b : Bool) → Inserts space n key old (Ok b) new
    → Completes space (λ x. x ≡ key) n old (n + bool_byte b) new
counted space n key old new true h = rw add-one h
counted space n key old new false h = rw add-zero h

pub overflow_add-result : goal.overflow_add-result
unfolding capacity
overflow_add-result c = omega (arith, c.requires.0.room, bit c.in_ok-added.added, c.from.ensures)

pub returns : goal.returns
returns c =
    let a = c.args in
    rw c.from.ensures (counted a.keys a.n a.key a.table.now c.insert.new.table c.in_ok-added.added c.in_ok-added.ensures)
