-- A matching from one left register on. Assumes nothing.
use Prim.Native.Nat.{ℕ, ◌+◌, ◌≤◌, ◌<◌}
use mathlib.Core.Path.{◌≡◌}
use mathlib.Core.Bool.{Bool, true, false, not, ◌&&◌, ◌||◌}
use mathlib.Core.List.{List}
use native.Mathlib.Numerals.{add-one}
use lib.ListN.{length, get_or, drop, drop_of_length-le}
use lib.Seq.{drop-cons}
use lib.Dec.{eqb}
use Rattle.fra.specs.Lists.{any}
use Rattle.fra.specs.Registers.{has}
use Rattle.fra.specs.Position.{matching}

module _ (left right : ℕ) (l : List ℕ) (i : ℕ) where
  -- the partner at place i is none, or joins registers of the two sets and is not used later
  abbrev pub partner_fits : Bool
  partner_fits =
      eqb (get_or l i 0) 0
      || (has left (i + 1) && has right (get_or l i 0) && not (any (eqb (get_or l i 0)) (drop (i + 1) l)))

  pub matching_stop : i < length l → partner_fits ≡ false → matching left right (i + 1) (drop i l) ≡ false
  unfolding matching
  matching_stop h e = rw (drop-cons l i 0 h, ← add-one i, e)

  pub matching_on : i < length l → partner_fits ≡ true
      → matching left right (i + 1) (drop i l) ≡ matching left right (i + 1 + 1) (drop (i + 1) l)
  unfolding matching
  matching_on h e = rw (drop-cons l i 0 h, ← add-one i, e, add-one (i + 1), add-one i)

  pub matching-end : length l ≤ i → matching left right (i + 1) (drop i l) ≡ true
  unfolding matching
  matching-end h = rw (drop_of_length-le l h)
