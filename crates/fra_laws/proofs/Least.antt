-- The least number below a bound at which a test passes, found by going up; and, where the test is one of the elements of a
-- list, what it keeps of the list from there on. Assumes nothing.
use Prim.Native.Nat.{ℕ, zero, suc, ◌+◌, ◌-◌, ◌≤◌, ◌<◌}
use mathlib.Core.Path.{◌≡◌, refl, sym, ◌∙◌}
use mathlib.Core.Bool.{Bool, true, false}
use mathlib.Core.List.{List, [], ◌∷◌}
use Rattle.std.specs.Prelude.{Option, None, Some}
use native.Mathlib.Numerals.{add-one}
use native.Mathlib.Omega.{arith}
use lib.ListN.{length, get_or, drop, drop_of_length-le}
use lib.Seq.{drop-cons}
use Rattle.fra.specs.Lists.{keep, count, least}
use Rattle.fra_laws.proofs.Tests.{clash, not_both}
use Rattle.fra_laws.proofs.Lists.{keep_passes, keep_fails, least-found}

module _ (f : ℕ → Bool) (i n : ℕ) where
  more : i < n → n - i ≡ suc (n - (i + 1))
  more p = omega arith

  pub least-here : i < n → f i ≡ true → least f i (n - i) ≡ Some i
  unfolding least
  least-here p e = rw (more p, e, least)

  pub least-later : i < n → f i ≡ false → least f i (n - i) ≡ least f (i + 1) (n - (i + 1))
  unfolding least
  least-later p e = rw (more p, e, least, add-one)

  pub least-end : n ≤ i → least f i (n - i) ≡ None
  unfolding least
  least-end p = let e : n - i ≡ 0 = omega arith in rw e

module _ {A : Type 0} (f : A → Bool) (l : List A) (d : A) where
  -- the element at this place passes
  abbrev pub test : ℕ → Bool
  test i = f (get_or l i d)

  -- what the test keeps from place i on, if the first place there at which it passes is this
  abbrev pub KeptFrom : ℕ → Option ℕ → Type 0
  KeptFrom i None = keep f (drop i l) ≡ []
  KeptFrom i (Some j) = (j < length l) × (keep f (drop i l) ≡ get_or l j d ∷ keep f (drop (suc j) l))

  pub kept_from : (i : ℕ) → KeptFrom i (least test i (length l - i))
  unfolding keep least
  kept_from i = go (length l - i) i refl
    where
      passed : (i : ℕ) (o : Option ℕ) → keep f (drop i l) ≡ keep f (drop (suc i) l) → KeptFrom (suc i) o → KeptFrom i o
      passed i None e r = e ∙ r
      passed i (Some j) e r = (r.0, e ∙ r.1)

      step : (n i : ℕ) → i < length l → KeptFrom (suc i) (least test (suc i) n) → (b : Bool) → test i ≡ b
          → KeptFrom i (least test i (suc n))
      step n i p r true e = rw (e, least) (p, rw (drop-cons l i d p) (keep_passes f (get_or l i d) (drop (suc i) l) e))
      step n i p r false e =
          rw (e, least)
          (passed i (least test (suc i) n) (rw (drop-cons l i d p) (keep_fails f (get_or l i d) (drop (suc i) l) e)) r)

      go : (n i : ℕ) → length l - i ≡ n → KeptFrom i (least test i n)
      go zero i e = rw (drop_of_length-le l {i = i} (omega arith))
      go (suc n) i e = step n i (omega arith) (go n (suc i) (omega arith)) (test i) refl

-- ── What a test keeps of the numbers from one on, by the least at which it passes ──

module _ (f : ℕ → Bool) where
  -- a test that passes nowhere keeps nothing
  pub keep_none : (i n : ℕ) → least f i n ≡ None → keep f (count i n) ≡ []
  unfolding keep count least
  keep_none i zero e = refl
  keep_none i (suc n) e = step (f i) refl (keep_none (suc i) n)
    where
      step : (b : Bool) → f i ≡ b → (least f (suc i) n ≡ None → keep f (count (suc i) n) ≡ [])
          → keep f (count i (suc n)) ≡ []
      step true h rest = let d : least f i (suc n) ≡ Some i = rw (h, least) in clash (cc)
      step false h rest = keep_fails f i (count (suc i) n) h ∙ rest (sym (rw (h, least)) ∙ e)

  -- the first number that is kept
  keep-first : (i n j : ℕ) → least f i n ≡ Some j → (i ≤ j) × (keep f (count i n) ≡ j ∷ keep f (count (suc j) (i + n - suc j)))
  unfolding keep count least
  keep-first i zero j e = clash (cc)
  keep-first i (suc n) j e = step (f i) refl (keep-first (suc i) n j)
    where
      step : (b : Bool) → f i ≡ b
          → (least f (suc i) n ≡ Some j
          → (suc i ≤ j) × (keep f (count (suc i) n) ≡ j ∷ keep f (count (suc j) (suc i + n - suc j))))
          → (i ≤ j) × (keep f (count i (suc n)) ≡ j ∷ keep f (count (suc j) (i + suc n - suc j)))
      step true h rest =
          let d : least f i (suc n) ≡ Some i = rw (h, least) in
          let s : j ≡ i = cc in
          let r : i + suc n - suc j ≡ n = omega arith in
          (omega arith, rw (r, s) (keep_passes f i (count (suc i) n) h))
      step false h rest =
          let (p, q) = rest (sym (rw (h, least)) ∙ e) in
          let r : suc i + n ≡ i + suc n = omega arith in
          (omega arith, keep_fails f i (count (suc i) n) h ∙ rw r at q)

  pub keep_some : (i n j : ℕ) → least f i (n - i) ≡ Some j
      → (i ≤ j) × (j < n) × (keep f (count i (n - i)) ≡ j ∷ keep f (count (suc j) (n - suc j)))
  keep_some i n j e =
      let (p, q) = keep-first i (n - i) j e in
      let (_, below, _) = least-found f i (n - i) j e in
      let r : i + (n - i) ≡ n = omega arith in
      (p, omega arith, rw r at q)

  -- a test that fails from a number on finds none there
  pub least_fails : (i n : ℕ) → ((k : ℕ) → i ≤ k → f k ≡ false) → least f i (n - i) ≡ None
  least_fails i n fails = step (least f i (n - i)) refl
    where
      step : (o : Option ℕ) → least f i (n - i) ≡ o → least f i (n - i) ≡ None
      step None e = e
      step (Some j) e =
          let (passes, _, _) = least-found f i (n - i) j e in
          absurd (not_both (f j) passes (fails j (keep_some i n j e).0))
