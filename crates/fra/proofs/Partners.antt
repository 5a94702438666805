-- Partners from one place of a matching on. Assumes nothing.
use Prim.Native.Nat.{ℕ, zero, suc, ◌+◌, ◌-◌, ◌≤◌, ◌<◌}
use mathlib.Core.Path.{◌≡◌}
use mathlib.Core.List.{List}
use native.Mathlib.Numerals.{add-one}
use native.Mathlib.Omega.{arith}
use lib.ListN.{length, get_or, drop, drop_of_length-le}
use lib.Seq.{drop-cons}
use borrow.Author.Tests.{eq-eqb, ne_eqb}
use Rattle.fra.specs.Position.{right_partner, left_partner}

pub right_partner-at : (l : List ℕ) (i : ℕ) → 0 < i → right_partner l i ≡ get_or l (i - 1) 0
unfolding right_partner
right_partner-at l zero p = absurd (omega arith)
right_partner-at l (suc k) p = let e : suc k - 1 ≡ k = omega arith in rw e

-- the left partner of right register j, from place i on
module _ (l : List ℕ) (i j : ℕ) where
  pub left_partner-here : i < length l → get_or l i 0 ≡ j → left_partner (i + 1) (drop i l) j ≡ i + 1
  unfolding left_partner
  left_partner-here p e = rw (drop-cons l i 0, eq-eqb (get_or l i 0) j e, left_partner)

  pub left_partner-later : i < length l → (get_or l i 0 ≡ j → ⊥)
      → left_partner (i + 1) (drop i l) j ≡ left_partner (i + 1 + 1) (drop (i + 1) l) j
  unfolding left_partner
  left_partner-later p n = rw (drop-cons l i 0, ne_eqb (get_or l i 0) j n, left_partner, add-one i, add-one (suc i))

  pub left_partner_none : length l ≤ i → left_partner (i + 1) (drop i l) j ≡ 0
  unfolding left_partner
  left_partner_none p = rw (drop_of_length-le l p)
