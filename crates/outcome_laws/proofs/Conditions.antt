-- A list that meets the published conditions on a certificate shows what it says of the start, whoever wrote the list: a
-- kept one that the start is never lost, a lost one that the start is lost within the listed rounds. Assumes nothing.
use Prim.Native.Nat.{ℕ, zero, suc, ◌≤◌}
use mathlib.Core.Path.{◌≡◌, ◌∙◌}
use mathlib.Core.Logic.{inr, ⊎_elim}
use mathlib.Core.Bool.{true}
use mathlib.Core.List.{List}
use native.Mathlib.Omega.{arith}
use Rattle.fra.specs.Lists.{◌∈◌}
use Rattle.fra.specs.Rules.{Rules}
use Rattle.fra.specs.Game.{lost_within, NeverLost}
use Rattle.fra.specs.declared.Position.{Position}
use Rattle.fra.specs.declared.Task.{Task}
use Rattle.fra_laws.proofs.Lost.{lost_at_once_lem, lost-step, lost_within-more}
use Rattle.fra_laws.proofs.Bisimulation.{bisimulation_never_lost}
use Rattle.outcome.specs.Certificate.{Loss}
use Rattle.outcome.specs.Conditions.{KeptCondition, LostCondition}

module _ (g : Rules) (t : Task) where
  -- a record of at most n rounds has a position lost within n
  lost-within : (l : List Loss) → LostCondition g t l → (n : ℕ) (x : Loss) → x ∈ l → x.rounds ≤ n
      → lost_within g t n x.position ≡ true
  lost-within l c zero x m b =
      ⊎_elim (λ h. lost_at_once_lem g t x.position ∙ h.marks) (λ (d, w). absurd (omega arith)) (c.records x m)
  lost-within l c (suc n) x m b =
      ⊎_elim
      (λ h. lost_within-more g t 0 (suc n) x.position (omega arith) (lost_at_once_lem g t x.position ∙ h.marks))
      (λ (d, w).
      (lost-step g t n x.position).1
      (inr (
        w.attack,
        w.exists,
        λ k i.
            let (y, j, e, f) = w.replies k i in
            rw e at (lost-within l c n y j (omega arith)),
      )))
      (c.records x m)

  -- ── What a certificate shows ──

  pub kept-start_never_lost : (r : ℕ) (l : List Position) → KeptCondition g r t l → NeverLost g t t.start
  kept-start_never_lost r l c = bisimulation_never_lost g r t (λ p. p ∈ l) c.bisimulation t.start c.start

  pub listed-lost : (l : List Loss) → LostCondition g t l
      → (x : Loss) → x ∈ l → lost_within g t x.rounds x.position ≡ true
  listed-lost l c x m = lost-within l c x.rounds x m (omega arith)

  -- the start is lost within the rounds of each record that has it
  pub listed-start-lost : (l : List Loss) → LostCondition g t l
      → (x : Loss) → x ∈ l → x.position ≡ t.start → lost_within g t x.rounds t.start ≡ true
  listed-start-lost l c x m e = rw e at (listed-lost l c x m)
