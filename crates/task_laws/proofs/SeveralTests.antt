-- Several tests at once. Assumes nothing.
use mathlib.Core.Path.{◌≡◌, refl}
use mathlib.Core.Logic.{◌⊎◌, inl, inr}
use mathlib.Core.Bool.{Bool, true, false, ◌&&◌, ◌||◌, true≢false, false≢true}

pub some-of_three : (a b c : Bool) → (a || b || c) ≡ true → (a ≡ true) ⊎ (b ≡ true) ⊎ (c ≡ true)
some-of_three true b c h = inl refl
some-of_three false true c h = inr (inl refl)
some-of_three false false c h = inr (inr h)

pub none_of_three : (a b c : Bool) → (a || b || c) ≡ false → (a ≡ false) × (b ≡ false) × (c ≡ false)
none_of_three true b c h = absurd (true≢false h)
none_of_three false true c h = absurd (true≢false h)
none_of_three false false c h = (refl, refl, h)

pub some-of_four : (a b c d : Bool) → (a || b || c || d) ≡ true → (a ≡ true) ⊎ (b ≡ true) ⊎ (c ≡ true) ⊎ (d ≡ true)
some-of_four true b c d h = inl refl
some-of_four false b c d h = inr (some-of_three b c d h)

pub none_of_four : (a b c d : Bool) → (a || b || c || d) ≡ false → (a ≡ false) × (b ≡ false) × (c ≡ false) × (d ≡ false)
none_of_four true b c d h = absurd (true≢false h)
none_of_four false b c d h = let w = none_of_three b c d h in (refl, w.0, w.1, w.2)

pub all-of_six : (a b c d e f : Bool) → (a && b && c && d && e && f) ≡ true
    → (a ≡ true) × (b ≡ true) × (c ≡ true) × (d ≡ true) × (e ≡ true) × (f ≡ true)
all-of_six false b c d e f h = absurd (false≢true h)
all-of_six true false c d e f h = absurd (false≢true h)
all-of_six true true false d e f h = absurd (false≢true h)
all-of_six true true true false e f h = absurd (false≢true h)
all-of_six true true true true false f h = absurd (false≢true h)
all-of_six true true true true true f h = (refl, refl, refl, refl, refl, h)

pub not_all-of_six : (a b c d e f : Bool) → (a && b && c && d && e && f) ≡ false
    → (a ≡ false) ⊎ (b ≡ false) ⊎ (c ≡ false) ⊎ (d ≡ false) ⊎ (e ≡ false) ⊎ (f ≡ false)
not_all-of_six false b c d e f h = inl refl
not_all-of_six true false c d e f h = inr (inl refl)
not_all-of_six true true false d e f h = inr (inr (inl refl))
not_all-of_six true true true false e f h = inr (inr (inr (inl refl)))
not_all-of_six true true true true false f h = inr (inr (inr (inr (inl refl))))
not_all-of_six true true true true true f h = inr (inr (inr (inr (inr h))))
