-- Strings of digits of one base and one length: their numbers order them as `below` does, tell them apart and give them back.
-- Assumes nothing.
use Prim.Native.Nat.{ℕ, ◌+◌, ◌*◌, ◌/◌, ◌^◌, ◌<◌}
use mathlib.Core.Path.{◌≡◌, refl, sym, ap, ap₂}
use mathlib.Core.Logic.{⊎_elim}
use mathlib.Core.Bool.{Bool, true, false, ◌&&◌, false≢true}
use mathlib.Core.List.{List, [], ◌∷◌, ◌++◌}
use native.Mathlib.Omega.{arith}
use native.Mathlib.Nat.{mul_assoc, mul-one, div-one, pow-zero, pow-suc, pow-succ', div-div-eq-div-mul}
use lib.ListN.{length}
use lib.Dec.{ltb, eqb}
use lib.Arith.{digits_lt, digits_div, digits_mod}
use borrow.Author.Tests.{ltb-true, eqb-true}
use Rattle.fra.specs.Lists.{below}
use Rattle.listing.specs.Digits.{value, digits, Below}
use Rattle.fra_laws.proofs.Tests.{and_left, and_right, or_cases}
use Rattle.fra_laws.proofs.Order.{below_total}

-- a number for each thing that rises with a total order decides the order, and tells the things apart
pub rising_decides : {A : Type 0} (less : A → A → Bool) (f : A → ℕ) (a b : A) → (less a b ≡ false → less b a ≡ false → a ≡ b)
    → (less a b ≡ true → f a < f b)
    → (less b a ≡ true → f b < f a)
    → (f a < f b → less a b ≡ true) × (f a ≡ f b → a ≡ b)
rising_decides less f a b total up down = cases (less a b) refl (less b a) refl
  where
    cases : (x : Bool) → less a b ≡ x → (y : Bool) → less b a ≡ y → (f a < f b → less a b ≡ true) × (f a ≡ f b → a ≡ b)
    cases true e y d = let h = up e in (λ _. e, λ s. absurd (omega arith))
    cases false e true d = let h = down d in (λ s. absurd (omega arith), λ s. absurd (omega arith))
    cases false e false d = let h = total e d in (λ s. let z = ap f h in absurd (omega arith), λ _. h)

module _ (base : ℕ) where
  pub value_bound : (limit before : ℕ) (ds : List ℕ) → before < limit → Below base ds
      → value base before ds < limit * base ^ length ds
  unfolding value
  value_bound limit before [] h b = rw (pow-zero, mul-one) h
  value_bound limit before (d ∷ ds) h b =
      rw (pow-succ', ← mul_assoc) (value_bound (limit * base) (before * base + d) ds (digits_lt h b.0) b.1)

  pub value-rises : (x y : ℕ) (ds es : List ℕ) → length ds ≡ length es → Below base ds → Below base es → x < y
      → value base x ds < value base y es
  unfolding value
  value-rises x y [] [] n b c h = h
  value-rises x y [] (e ∷ es) n b c h = absurd (omega arith)
  value-rises x y (d ∷ ds) [] n b c h = absurd (omega arith)
  value-rises x y (d ∷ ds) (e ∷ es) n b c h =
      let k : x * base + d < y * base + e = omega (arith, digits_lt h b.0) in
      value-rises (x * base + d) (y * base + e) ds es (omega arith) b.1 c.1 k

  pub value-below : (x : ℕ) (ds es : List ℕ) → length ds ≡ length es → Below base ds → Below base es → below ds es ≡ true
      → value base x ds < value base x es
  unfolding value below
  value-below x [] [] n b c h = absurd (false≢true h)
  value-below x [] (e ∷ es) n b c h = absurd (omega arith)
  value-below x (d ∷ ds) [] n b c h = absurd (false≢true h)
  value-below x (d ∷ ds) (e ∷ es) n b c h =
      ⊎_elim
      (λ l.
      let k = ltb-true d e l in
      value-rises (x * base + d) (x * base + e) ds es (omega arith) b.1 c.1 (omega arith))
      (λ r.
      let k = eqb-true d e (and_left (eqb d e) (below ds es) r) in
      rw k (value-below (x * base + e) ds es (omega arith) b.1 c.1 (and_right (eqb d e) (below ds es) r)))
      (or_cases (ltb d e) (eqb d e && below ds es) h)

  -- one digit more at the end
  pub value_snoc : (before : ℕ) (ds : List ℕ) (d : ℕ) → value base before (ds ++ (d ∷ [])) ≡ value base before ds * base + d
  unfolding value
  value_snoc before [] d = refl
  value_snoc before (e ∷ ds) d = value_snoc (before * base + e) ds d

  -- what stands before a string is left when its places are divided away
  pub value_div : (before : ℕ) (ds : List ℕ) → Below base ds → value base before ds / base ^ length ds ≡ before
  unfolding value
  value_div before [] b = rw pow-zero (div-one before)
  value_div before (d ∷ ds) b =
      rw (pow-suc, ← div-div-eq-div-mul, value_div (before * base + d) ds b.1) (digits_div before b.0)

  pub digits_value : (before : ℕ) (ds : List ℕ) → Below base ds → digits base (length ds) (value base before ds) ≡ ds
  unfolding value digits
  digits_value before [] b = refl
  digits_value before (d ∷ ds) b =
      ap₂ (λ (a : ℕ) (l : List ℕ). a ∷ l) (rw (value_div (before * base + d) ds b.1) (digits_mod before b.0))
      (digits_value (before * base + d) ds b.1)

  -- on strings of one length the order of the numbers is the order of the strings, and equal numbers come from equal strings
  pub value-order : (x : ℕ) (ds es : List ℕ) → length ds ≡ length es → Below base ds → Below base es
      → (value base x ds < value base x es → below ds es ≡ true) × (value base x ds ≡ value base x es → ds ≡ es)
  value-order x ds es n b c =
      rising_decides below (value base x) ds es (below_total ds es) (value-below x ds es n b c) (value-below x es ds (sym n) c b)
