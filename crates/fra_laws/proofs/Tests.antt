-- Tests that compute: what `&&` and `||` say of their parts, and a case split on a test; and what follows where two constructors
-- would be one. Assumes nothing.
use Prim.Native.Nat.{ℕ}
use mathlib.Core.Path.{◌≡◌, refl, sym, ◌∙◌}
use mathlib.Core.Logic.{◌⊎◌, inl, inr}
use mathlib.Core.Bool.{Bool, true, false, ◌&&◌, true≢false, false≢true, ◌||◌}
use native.Mathlib.Omega.{arith}

-- two constructors are not one: `clash (cc)` where the facts in scope say that they are
pub clash {ℓ} : {X : Type ℓ} → ◌≡◌ {A = ℕ} 0 1 → X
clash z = absurd (omega arith)

pub and_left : (a b : Bool) → (a && b) ≡ true → a ≡ true
and_left true b h = refl
and_left false b h = h

pub and_right : (a b : Bool) → (a && b) ≡ true → b ≡ true
and_right true b h = h
and_right false b h = absurd (false≢true h)

pub and_intro : (a b : Bool) → a ≡ true → b ≡ true → (a && b) ≡ true
and_intro true b p q = q
and_intro false b p q = p

pub and_false : (a b : Bool) → (a && b) ≡ false → (a ≡ false) ⊎ (b ≡ false)
and_false true b h = inr h
and_false false b h = inl refl

pub or_cases : (a b : Bool) → (a || b) ≡ true → (a ≡ true) ⊎ (b ≡ true)
or_cases true b h = inl refl
or_cases false b h = inr h

pub or_left : (a b : Bool) → a ≡ true → (a || b) ≡ true
or_left true b h = refl
or_left false b h = absurd (false≢true h)

pub or_right : (a b : Bool) → b ≡ true → (a || b) ≡ true
or_right true b h = refl
or_right false b h = h

pub or_false_left : (a b : Bool) → (a || b) ≡ false → a ≡ false
or_false_left true b h = h
or_false_left false b h = refl

pub or_false_right : (a b : Bool) → (a || b) ≡ false → b ≡ false
or_false_right true b h = absurd (true≢false h)
or_false_right false b h = h

pub or_false_intro : (a b : Bool) → a ≡ false → b ≡ false → (a || b) ≡ false
or_false_intro true b p q = p
or_false_intro false b p q = q

-- a test passes or fails
pub passes_or_fails : (a : Bool) → (a ≡ true) ⊎ (a ≡ false)
passes_or_fails true = inl refl
passes_or_fails false = inr refl

-- and not both
pub not_both : (a : Bool) → a ≡ true → a ≡ false → ⊥
not_both a p q = true≢false (sym p ∙ q)

-- a test that does not fail passes, and the other way round
pub passes_unless : (a : Bool) → (a ≡ false → ⊥) → a ≡ true
passes_unless true h = refl
passes_unless false h = absurd (h refl)

pub fails_unless : (a : Bool) → (a ≡ true → ⊥) → a ≡ false
fails_unless true h = absurd (h refl)
fails_unless false h = refl

-- two tests that pass together are equal
pub same_test : (a b : Bool) → (a ≡ true → b ≡ true) → (b ≡ true → a ≡ true) → a ≡ b
same_test true b f g = sym (f refl)
same_test false true f g = g refl
same_test false false f g = refl
