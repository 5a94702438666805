-- Strings in a row, one for each element that passes a test: those of a list by the places of its elements, and those of the
-- numbers below a bound, which are written one behind another. Assumes nothing.
use Prim.Native.Nat.{ℕ, suc, ◌+◌, ◌≤◌, ◌<◌}
use mathlib.Core.Path.{◌≡◌, refl, sym, ◌∙◌, ap}
use mathlib.Core.Bool.{Bool, true, false}
use mathlib.Core.List.{List, [], ◌∷◌, ◌++◌, flat_map, append-nil}
use native.Mathlib.Omega.{arith}
use native.Mathlib.Numerals.{add-one}
use native.Mathlib.Nat.{zero-add}
use native.Mathlib.Decide.{le_ind}
use lib.ListN.{length, get_or, length-append}
use lib.Seq.{sets}
use Rattle.fra.specs.Lists.{◌∈◌, keep, count}
use Rattle.fra_laws.proofs.Lists.{keep_passes, keep_fails, keep_elim, count_elim}
use Rattle.fra_laws.proofs.Lengths.{count-more}
use Rattle.fra_laws.proofs.FixedWidth.{sets_append}
use Rattle.fra_laws.proofs.ByPlace.{elements}
use Rattle.fra_laws.proofs.KeptLists.{keep_append, keep_same, keep-map}
use Rattle.fra_laws.proofs.StringsInARow.{flat_map-same, flat_map-append, flat_map-map}

-- ── The elements of a list by their places ──

-- a test and strings for places that agree with a test and strings for the elements there
pub by_places : {A B : Type 0} (l : List A) (z : A) (test : A → Bool) (test_at : ℕ → Bool) (of : A → List B) (of_at : ℕ → List B)
    → ((i : ℕ) → i < length l → test_at i ≡ test (get_or l i z))
    → ((i : ℕ) → i < length l → test (get_or l i z) ≡ true → of_at i ≡ of (get_or l i z))
    → flat_map of_at (keep test_at (count 0 (length l))) ≡ flat_map of (keep test l)
by_places l z test test_at of of_at e f =
    ap (flat_map of_at) (keep_same test_at (λ i. test (get_or l i z)) places (λ i m. e i (within i m)))
    ∙ flat_map-same of_at (λ i. of (get_or l i z)) (keep (λ i. test (get_or l i z)) places)
    (λ i m.
    let (n, h) = keep_elim (λ i. test (get_or l i z)) i places m in
    f i (within i n) h)
    ∙ sym (flat_map-map of (λ i. get_or l i z) (keep (λ i. test (get_or l i z)) places))
    ∙ ap (flat_map of) (sym (keep-map test (λ i. get_or l i z) places) ∙ ap (keep test) (elements (length l) l z refl))
  where
    places : List ℕ
    places = count 0 (length l)

    within : (i : ℕ) → i ∈ count 0 (length l) → i < length l
    within i m = omega (arith, (count_elim 0 (length l) i m).1)

-- ── The numbers below a bound ──

module _ (test : ℕ → Bool) (i : ℕ) where
  pub keep-count_passes : test i ≡ true → keep test (count 0 (i + 1)) ≡ keep test (count 0 i) ++ (i ∷ [])
  unfolding keep
  keep-count_passes e = rw (add-one i, count-more 0 i, zero-add i, keep_append test (count 0 i) (i ∷ []), keep_passes test i [] e)

  pub keep-count_fails : test i ≡ false → keep test (count 0 (i + 1)) ≡ keep test (count 0 i)
  unfolding keep
  keep-count_fails e =
      rw (add-one i, count-more 0 i, zero-add i, keep_append test (count 0 i) (i ∷ []), keep_fails test i [] e, append-nil)

module _ (test : ℕ → Bool) (of : ℕ → List ℕ) where
  -- the strings of those below i
  abbrev pub strings_below : ℕ → List ℕ
  strings_below i = flat_map of (keep test (count 0 i))

  pub strings_more : (i : ℕ) → test i ≡ true → strings_below (i + 1) ≡ strings_below i ++ of i
  unfolding flat_map
  strings_more i e =
      ap (flat_map of) (keep-count_passes test i e)
      ∙ flat_map-append of (keep test (count 0 i)) (i ∷ [])
      ∙ ap (λ (l : List ℕ). strings_below i ++ l) (append-nil (of i))

  pub strings_same : (i : ℕ) → test i ≡ false → strings_below (i + 1) ≡ strings_below i
  strings_same i e = ap (flat_map of) (keep-count_fails test i e)

  pub strings_grow : (i n : ℕ) → i ≤ n → length (strings_below i) ≤ length (strings_below n)
  strings_grow i n b =
      le_ind (λ k. length (strings_below i) ≤ length (strings_below k)) (omega arith) (λ k c h. step k h (test k) refl) n b
    where
      step : (k : ℕ) → length (strings_below i) ≤ length (strings_below k) → (b : Bool) → test k ≡ b
          → length (strings_below i) ≤ length (strings_below (suc k))
      step k h true e = rw (← add-one k, strings_more k e, length-append) (omega arith)
      step k h false e = rw (← add-one k, strings_same k e) h

  -- the next string is written behind the others
  pub strings_write : (buffer : List ℕ) (i : ℕ) → test i ≡ true
      → sets (sets buffer 0 (strings_below i)) (length (strings_below i)) (of i) ≡ sets buffer 0 (strings_below (i + 1))
  strings_write buffer i e =
      ap (λ (k : ℕ). sets (sets buffer 0 (strings_below i)) k (of i)) (sym (zero-add (length (strings_below i))))
      ∙ sym (sets_append buffer 0 (strings_below i) (of i))
      ∙ ap (sets buffer 0) (sym (strings_more i e))
