-- Whether a test passes in a list, place by place. Assumes nothing.
use Prim.Native.Nat.{ℕ, suc, ◌+◌, ◌≤◌, ◌<◌}
use mathlib.Core.Path.{◌≡◌, sym, ◌∙◌}
use mathlib.Core.Bool.{Bool, ◌||◌, or-false, or_assoc}
use mathlib.Core.List.{List}
use native.Mathlib.Numerals.{add-one}
use lib.ListN.{length, get_or, drop, drop_of_length-le}
use lib.Seq.{drop-cons}
use Rattle.fra.specs.Lists.{any}

module _ {A : Type 0} (f : A → Bool) (l : List A) where
  -- m says whether it passed before place i, and next whether it passed before i + 1
  pub any_next : (i : ℕ) (z : A) (m next : Bool) → i < length l → next ≡ m || f (get_or l i z)
      → any f l ≡ m || any f (drop i l)
      → any f l ≡ next || any f (drop (i + 1) l)
  unfolding any
  any_next i z m next b e h =
      h ∙ rw (e, add-one, drop-cons l i z b) (sym (or_assoc m (f (get_or l i z)) (any f (drop (suc i) l))))

  pub any-end : (i : ℕ) (m : Bool) → length l ≤ i → any f l ≡ m || any f (drop i l) → m ≡ any f l
  unfolding any
  any-end i m b h = sym (h ∙ rw (drop_of_length-le l b) (or-false m))
