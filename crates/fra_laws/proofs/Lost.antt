-- What "lost within n rounds" says of a position: the definition unfolded once, and its monotonicity, for any rules, task
-- and register count. Later proofs use these facts and not the definition. Assumes nothing.
use Prim.Native.Nat.{ℕ, zero, suc, ◌≤◌}
use mathlib.Core.Path.{◌≡◌, refl, ◌∙◌}
use mathlib.Core.Logic.{◌⊎◌, inl, inr, ⊎_elim, ◌↔◌}
use mathlib.Core.Bool.{Bool, true, false}
use native.Mathlib.Decide.{le_ind}
use Rattle.fra.specs.Lists.{◌∈◌, any, all}
use Rattle.fra.specs.Rules.{Rules}
use Rattle.fra.specs.Game.{attacks, replies, after, lost_at_once, lost_within, NeverLost}
use Rattle.fra.specs.declared.Position.{Position}
use Rattle.fra.specs.declared.Task.{Task}
use Rattle.fra.specs.declared.Attack.{Attack}
use Rattle.fra_laws.proofs.Tests.{or_cases, or_left, or_right, not_both, fails_unless}
use Rattle.fra_laws.proofs.Lists.{any_witness, any_intro, all-at, all_intro, all_counterexample}

-- some attack has every reply leading to a position lost within n rounds
abbrev pub Winnable : Rules → Task → ℕ → Position → Type 0
Winnable g t n p =
    (a : Attack) × (a ∈ attacks g t p) × ((k : ℕ) → k ∈ replies t p a → lost_within g t n (after t p a k) ≡ true)

-- each attack has a reply leading to a position not lost within n rounds
abbrev pub Answerable : Rules → Task → ℕ → Position → Type 0
Answerable g t n p =
    (a : Attack) → a ∈ attacks g t p → (k : ℕ) × (k ∈ replies t p a) × (lost_within g t n (after t p a k) ≡ false)

module _ (g : Rules) (t : Task) where
  -- the attack has every reply leading to a position lost within n rounds: the definition's test
  abbrev wins : ℕ → Position → Attack → Bool
  wins n p a = all (λ k. lost_within g t n (after t p a k)) (replies t p a)

  pub lost_at_once_lem : (p : Position) → lost_within g t 0 p ≡ lost_at_once g t p
  unfolding lost_within
  lost_at_once_lem p = refl

  -- "It is lost within n+1 rounds if lost within n, or if some attack has every reply leading to a position lost within n."
  pub lost-step : (n : ℕ) (p : Position)
      → (lost_within g t (suc n) p ≡ true) ↔ ((lost_within g t n p ≡ true) ⊎ Winnable g t n p)
  unfolding lost_within
  lost-step n p = (λ h. there (or_cases (lost_within g t n p) (any (wins n p) (attacks g t p)) h), back)
    where
      there : (lost_within g t n p ≡ true) ⊎ (any (wins n p) (attacks g t p) ≡ true)
          → (lost_within g t n p ≡ true) ⊎ Winnable g t n p
      there (inl h) = inl h
      there (inr h) = let (a, m, w) = any_witness (wins n p) (attacks g t p) h in inr (a, m, λ k. all-at _ w)

      back : (lost_within g t n p ≡ true) ⊎ Winnable g t n p → lost_within g t (suc n) p ≡ true
      back (inl h) = or_left (lost_within g t n p) _ h
      back (inr (a, m, w)) = or_right (lost_within g t n p) _ (any_intro (wins n p) m (all_intro _ (replies t p a) w))

  -- not lost within n + 1 rounds: not within n, and each attack has a reply leading to a position not lost within n
  pub not_lost-step : (n : ℕ) (p : Position)
      → (lost_within g t (suc n) p ≡ false) ↔ ((lost_within g t n p ≡ false) × Answerable g t n p)
  not_lost-step n p = (
    λ h. (
      fails_unless _ (λ e. not_both _ ((lost-step n p).1 (inl e)) h),
      λ a m.
          all_counterexample _ (replies t p a)
          (fails_unless (wins n p a) (λ w. not_both _ ((lost-step n p).1 (inr (a, m, λ k. all-at _ w))) h)),
    ),
    λ (e, u).
        fails_unless _
        (λ h.
        ⊎_elim (λ d. not_both _ d e)
        (λ (a, m, w).
        let (k, i, f) = u a m in
        not_both _ (w k i) f)
        ((lost-step n p).0 h)),
  )

  pub lost_within-more : (n m : ℕ) (p : Position) → n ≤ m → lost_within g t n p ≡ true → lost_within g t m p ≡ true
  lost_within-more n m p b h = le_ind (λ k. lost_within g t k p ≡ true) h (λ k d e. (lost-step k p).1 (inl e)) m b

  pub not_lost_within-fewer : (n m : ℕ) (p : Position) → n ≤ m → lost_within g t m p ≡ false → lost_within g t n p ≡ false
  not_lost_within-fewer n m p b h = fails_unless _ (λ e. not_both _ (lost_within-more n m p b e) h)

  -- where no position of a set is lost at once and each attack has a reply leading into the set, none is ever lost
  pub answered_never_lost : (R : Position → Type 0) → ((p : Position) → R p → lost_at_once g t p ≡ false)
      → ((p : Position) → R p → (a : Attack) → a ∈ attacks g t p → (k : ℕ) × (k ∈ replies t p a) × R (after t p a k))
      → (p : Position) → R p → NeverLost g t p
  answered_never_lost R e u p m zero = lost_at_once_lem p ∙ e p m
  answered_never_lost R e u p m (suc n) =
      (not_lost-step n p).1 (
        answered_never_lost R e u p m n,
        λ a i.
            let (k, d, q) = u p m a i in
            (k, d, answered_never_lost R e u (after t p a k) q n),
      )
