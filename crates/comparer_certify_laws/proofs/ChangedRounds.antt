-- A table that begins with the entries of positions: what it becomes when rounds are changed in all entries, or in one. Assumes
-- nothing.
use Prim.Native.Nat.{ℕ, zero, suc, ◌+◌, ◌*◌, ◌-◌, ◌^◌, ◌≤◌, ◌<◌}
use mathlib.Core.Path.{◌≡◌, refl, sym, ◌∙◌, ap}
use mathlib.Core.Bool.{true, false}
use mathlib.Core.List.{List, ◌++◌}
use native.Mathlib.Omega.{arith}
use native.Mathlib.Nat.{zero-add, add-zero, add-suc}
use lib.ListN.{length, get_or}
use Rattle.fra.specs.Lists.{◌∈◌}
use Rattle.fra.specs.Position.{unmatched}
use Rattle.fra.specs.declared.Position.{Position}
use Rattle.fra_laws.proofs.FixedWidth.{at_member}
use Rattle.listing.specs.Widths.{entry_width, entry_rounds}
use Rattle.listing.specs.Words.{put_word}
use Rattle.comparer_rank_laws.specs.EntryRows.{rows}
use Rattle.comparer_rank_laws.proofs.EntryRows.{SixPartners, partly, partly_none, partly-all, partly_here, partly-next}
use Rattle.comparer_certify_laws.specs.Marking.{changed_at, changed}

module _ (l : List Position) (rest : List ℕ) (six : SixPartners l) where
  -- ── A function applied to all rounds ──

  module _ (f : Position → ℕ) (h : ℕ → ℕ) (fits : (p : Position) → p ∈ l → f p < 2 ^ 32) where
    changed-first : (i : ℕ) → i ≤ length l → changed h i (rows f l ++ rest) ≡ partly (λ p. h (f p)) f l rest i
    unfolding changed
    changed-first zero b = sym (partly_none (λ p. h (f p)) f l rest)
    changed-first (suc i) b =
        let z = unmatched 6 0 0 in
        ap (changed_at h i) (changed-first i (omega arith))
        ∙ ap (λ (n : ℕ). put_word (partly (λ p. h (f p)) f l rest i) (i * entry_width + entry_rounds) (h n))
        (partly_here (λ p. h (f p)) f l rest six i z b (fits _ (at_member l i z b)))
        ∙ partly-next (λ p. h (f p)) f l rest six i z b true (h (f (get_or l i z))) refl

    pub changed-all : changed h (length l) (rows f l ++ rest) ≡ rows (λ p. h (f p)) l ++ rest
    changed-all = changed-first (length l) (omega arith) ∙ partly-all (λ p. h (f p)) f l rest

  -- ── New rounds for one entry ──

  -- the rounds f become h, which differ in entry i alone
  module _ (f h : Position → ℕ) (i : ℕ) (z : Position) (b : i < length l)
      (others : (j : ℕ) → j < length l → (j ≡ i → ⊥) → h (get_or l j z) ≡ f (get_or l j z)) where
    -- what holds the rounds h up to an entry and f from there on is the same at another entry if i is not between them
    unchanged : (j d : ℕ) → j + d ≤ length l → ((k : ℕ) → j ≤ k → k < j + d → k ≡ i → ⊥)
        → partly h f l rest j ≡ partly h f l rest (j + d)
    unchanged j zero c apart = ap (partly h f l rest) (sym (add-zero j))
    unchanged j (suc d) c apart =
        unchanged j d (omega arith) (λ k u v. apart k u (omega arith))
        ∙ partly-next h f l rest six (j + d) z (omega arith) false 0
        (others (j + d) (omega arith) (apart (j + d) (omega arith) (omega arith)))
        ∙ ap (partly h f l rest) (sym (add-suc j d))

    pub changed_one : put_word (rows f l ++ rest) (i * entry_width + entry_rounds) (h (get_or l i z)) ≡ rows h l ++ rest
    changed_one =
        ap (λ (t : List ℕ). put_word t (i * entry_width + entry_rounds) (h (get_or l i z)))
        (sym (partly_none h f l rest)
        ∙ unchanged 0 i (omega arith) (λ k u v e. omega arith)
        ∙ ap (partly h f l rest) (zero-add i))
        ∙ partly-next h f l rest six i z b true (h (get_or l i z)) refl
        ∙ unchanged (suc i) (length l - suc i) (omega arith) (λ k u v e. omega arith)
        ∙ ap (partly h f l rest) (omega arith)
        ∙ partly-all h f l rest
