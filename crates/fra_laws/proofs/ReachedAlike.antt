-- The positions reached do not depend on who attacks, as long as some side does: two games on one task reach the same
-- positions. For any register count. Assumes nothing.
use Prim.Native.Nat.{ℕ}
use mathlib.Core.Path.{◌≡◌}
use mathlib.Core.Bool.{true}
use Rattle.fra.specs.Lists.{◌∈◌}
use Rattle.fra.specs.Rules.{Rules}
use Rattle.fra.specs.Position.{legal}
use Rattle.fra.specs.Reach.{begin, onward, successors, Reached}
use Rattle.fra.specs.Valid.{Valid}
use Rattle.fra.specs.declared.Position.{Position}
use Rattle.fra.specs.declared.Task.{Task}
use Rattle.fra.specs.declared.Side.{Side}
use Rattle.fra_laws.proofs.Closure.{closure_keeps}
use Rattle.fra_laws.proofs.LegalRounds.{successors-legal}
use Rattle.fra_laws.proofs.Successors.{successors_by_pairs}

module _ {r : ℕ} {t : Task} (valid : Valid r t) where
  -- by pairs of a left and a right edge, which ask for no attacker
  successors_alike : (g h : Rules) {s s' : Side} → g.attacks s ≡ true → h.attacks s' ≡ true
      → (p q : Position) → legal r t p ≡ true → q ∈ successors g t p → q ∈ successors h t p
  successors_alike g h {s} {s'} a b p q l m =
      (successors_by_pairs valid h p l s' b q).1 ((successors_by_pairs valid g p l s a q).0 m)

  pub reached_alike : (g h : Rules) {s s' : Side} → g.attacks s ≡ true → h.attacks s' ≡ true
      → (p : Position) → Reached g t p → Reached h t p
  reached_alike g h a b p c =
      (closure_keeps (λ q. (legal r t q ≡ true) × Reached h t q) (valid.start-legal, begin)
      (λ p q (l, d) m. (successors-legal valid g p q l m, onward d (successors_alike g h a b p q l m))) c).1
