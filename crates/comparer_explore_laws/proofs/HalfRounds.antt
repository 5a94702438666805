-- Both halves of a round make the round, for any register count; what they make place by place. Assumes nothing.
use Prim.Native.Nat.{ℕ, zero, suc, ◌+◌, ◌≤◌, ◌<◌}
use mathlib.Core.Path.{◌≡◌, refl, ◌∙◌, ap, ap₂}
use mathlib.Core.Bool.{Bool, true, false, cond}
use mathlib.Core.List.{List, [], ◌∷◌}
use native.Mathlib.Nat.{add-zero, add-suc, suc-add}
use native.Mathlib.Omega.{arith}
use native.Mathlib.Decide.{ℕ_discrete}
use lib.ListN.{length, get_or}
use lib.Dec.{eqb}
use borrow.Author.Tests.{ne_eqb}
use Rattle.fra.specs.Registers.{has}
use Rattle.fra.specs.Game.{rejoined, remaining, matched}
use Rattle.comparer_explore_laws.specs.HalfRounds.{in_set, kept_at, kept_by, joined_by}

-- ── Both halves ──

-- a register that neither a nor c is, whichever of the two holds the number
rejoined_alike : (a c b i x : ℕ) → (i ≡ a → ⊥) → (i ≡ c → ⊥) → rejoined c b i x ≡ rejoined a b i x
unfolding rejoined
rejoined_alike a c b i x d e = rw (ne_eqb i a d, ne_eqb i c e)

-- a register without a partner that does not hold the number gets none
rejoined_none : (c b i : ℕ) → (i ≡ c → ⊥) → rejoined c b i 0 ≡ 0
unfolding rejoined
rejoined_none c b i d = rw (ne_eqb i c d) (step (eqb 0 b))
  where
    step : (k : Bool) → ◌≡◌ {A = ℕ} (cond k 0 0) 0
    step true = refl
    step false = refl

module _ (left right a b : ℕ) where
  -- registers are numbered from 1: one that is not a is not a or 0
  not_landed : (i : ℕ) → 1 ≤ i → (i ≡ a → ⊥) → (k : Bool) → i ≡ cond k a 0 → ⊥
  not_landed i h d true e = d e
  not_landed i h d false e = omega arith

  -- the partner of register i, which was x
  one_partner : (i x : ℕ) → 1 ≤ i
      → in_set right (rejoined (in_set left a) b i (kept_at left i x)) ≡ remaining left right i (rejoined a b i x)
  unfolding remaining has
  one_partner i x h = step (ℕ_discrete i a) (has left i) refl
    where
      After : Type 0
      After = in_set right (rejoined (in_set left a) b i (kept_at left i x)) ≡ remaining left right i (rejoined a b i x)

      step : Dec (i ≡ a) → (k : Bool) → has left i ≡ k → After
      step (yes d) true e = let own : has left a ≡ true = rw (← d) e in rw (own, e)
      step (yes d) false e =
          let own : has left a ≡ false = rw (← d) e in
          rw (own, e, rejoined_none 0 b i (λ z. omega arith))
      step (no d) true e = rw (e, rejoined_alike a (in_set left a) b i x d (not_landed i h d (has left a)))
      step (no d) false e = rw (e, rejoined_none (in_set left a) b i (not_landed i h d (has left a)))

  pub half_matched : (i : ℕ) (l : List ℕ) → 1 ≤ i → joined_by right (in_set left a) b i (kept_by left i l) ≡ matched left right a b i l
  unfolding joined_by kept_by matched
  half_matched i [] h = refl
  half_matched i (x ∷ xs) h =
      ap₂ (λ (y : ℕ) (ys : List ℕ). y ∷ ys) (one_partner i x h) (half_matched (suc i) xs (omega arith))

-- ── Place by place ──

pub kept-length : (left i : ℕ) (l : List ℕ) → length (kept_by left i l) ≡ length l
unfolding kept_by
kept-length left i [] = refl
kept-length left i (x ∷ xs) = ap suc (kept-length left (suc i) xs)

pub kept-at : (left i : ℕ) (l : List ℕ) (k : ℕ) → k < length l → get_or (kept_by left i l) k 0 ≡ kept_at left (i + k) (get_or l k 0)
unfolding kept_by
kept-at left i [] k h = absurd (omega arith)
kept-at left i (x ∷ xs) zero h = rw add-zero
kept-at left i (x ∷ xs) (suc k) h = kept-at left (suc i) xs k (omega arith) ∙ rw (suc-add, add-suc)

module _ (right a b : ℕ) where
  pub joined_at : (i : ℕ) (l : List ℕ) (k : ℕ) → k < length l
      → get_or (joined_by right a b i l) k 0 ≡ in_set right (rejoined a b (i + k) (get_or l k 0))
  unfolding joined_by
  joined_at i [] k h = absurd (omega arith)
  joined_at i (x ∷ xs) zero h = rw add-zero
  joined_at i (x ∷ xs) (suc k) h = joined_at (suc i) xs k (omega arith) ∙ rw (suc-add, add-suc)
