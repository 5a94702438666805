-- The condition on a record of losses, by its rounds. Assumes nothing.
use Prim.Native.Nat.{ℕ, zero, suc}
use mathlib.Core.Path.{◌≡◌, refl}
use mathlib.Core.Bool.{Bool}
use mathlib.Core.List.{List}
use Rattle.fra.specs.Rules.{Rules}
use Rattle.fra.specs.declared.Task.{Task}
use Rattle.outcome.specs.Certificate.{Loss}
use Rattle.outcome.specs.Check.{attack_in, forces, loss_holds}
use Rattle.checker_laws.specs.CheckAnswers.{lost_already}

-- the case of a number above 0
above : (n : ℕ) (a b : Bool) → (n ≡ 0 → ⊥) → elim n [ zero ↦ a | suc m ↦ b ] ≡ b
above zero a b h = absurd (h refl)
above (suc m) a b h = refl

module _ (g : Rules) (t : Task) (l : List Loss) (x : Loss) where
  pub loss_at_once : x.rounds ≡ 0 → loss_holds g t l x ≡ lost_already g t x
  unfolding loss_holds
  loss_at_once e = rw (e, loss_holds)

  pub loss_by_attack : (x.rounds ≡ 0 → ⊥) → loss_holds g t l x ≡ forces g t l x (attack_in x)
  unfolding loss_holds
  loss_by_attack h = above x.rounds _ (forces g t l x (attack_in x)) h
