-- Rules that let more sides attack and lose more positions at once: what is lost within n rounds by the weaker rules is lost
-- within n rounds by them, and what is never lost by them is never lost by the weaker rules. For any task and register count.
-- Assumes nothing.
use Prim.Native.Nat.{ℕ, zero, suc}
use mathlib.Core.Path.{◌≡◌, sym, ◌∙◌}
use mathlib.Core.Logic.{◌⊎◌, inl, inr}
use mathlib.Core.Bool.{true}
use Rattle.fra.specs.Lists.{◌∈◌}
use Rattle.fra.specs.Rules.{Rules}
use Rattle.fra.specs.Game.{attacks, after, lost_at_once, lost_within, NeverLost}
use Rattle.fra.specs.declared.Position.{Position}
use Rattle.fra.specs.declared.Task.{Task}
use Rattle.fra.specs.declared.Side.{Side}
use Rattle.fra.specs.declared.Attack.{Attack}
use Rattle.fra_laws.proofs.Tests.{not_both, fails_unless}
use Rattle.fra_laws.proofs.AttackMembers.{attack-at, attacks_elim, is_attack_lem}
use Rattle.fra_laws.proofs.Lost.{Winnable, lost_at_once_lem, lost-step}

-- rules that say the same of every side and of all end marks are the same
pub same-rules : (g h : Rules) → ((s : Side) → g.attacks s ≡ h.attacks s) → ((l r : ℕ) → g.lost l r ≡ h.lost l r) → g ≡ h
same-rules g h e d = λ i. record { attacks = λ s. e s i; lost = λ l r. d l r i }

module _ (g h : Rules) (attack_too : (s : Side) → g.attacks s ≡ true → h.attacks s ≡ true) where
  more-attacks : (t : Task) (p : Position) (a : Attack) → a ∈ attacks g t p → a ∈ attacks h t p
  more-attacks t p a m =
      let x = attack-at g t p a m in
      is_attack_lem h t p a
      (record { allowed = attack_too a.side x.allowed; exists = x.exists; starts = x.starts; in_case_lem = x.in_case_lem })
      (attacks_elim g t p a m).1

  module _ (lost_too : (l r : ℕ) → g.lost l r ≡ true → h.lost l r ≡ true) (t : Task) where
    pub fewer-lost : (n : ℕ) (p : Position) → lost_within g t n p ≡ true → lost_within h t n p ≡ true
    unfolding lost_at_once
    fewer-lost zero p e = lost_at_once_lem h t p ∙ lost_too _ _ (sym (lost_at_once_lem g t p) ∙ e)
    fewer-lost (suc n) p e = (lost-step h t n p).1 (step (fewer-lost n) ((lost-step g t n p).0 e))
      where
        step : ((q : Position) → lost_within g t n q ≡ true → lost_within h t n q ≡ true)
            → (lost_within g t n p ≡ true) ⊎ Winnable g t n p
            → (lost_within h t n p ≡ true) ⊎ Winnable h t n p
        step rest (inl d) = inl (rest p d)
        step rest (inr (a, m, w)) = inr (a, more-attacks t p a m, λ k i. rest (after t p a k) (w k i))

    pub more_never_lost : (p : Position) → NeverLost h t p → NeverLost g t p
    more_never_lost p never n = fails_unless _ (λ e. not_both _ (fewer-lost n p e) (never n))
