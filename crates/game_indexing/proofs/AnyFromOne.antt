-- Whether a test passes at some of the numbers from 1 on, found by going up. Assumes nothing.
use Prim.Native.Nat.{ℕ, suc, ◌+◌, ◌-◌, ◌≤◌, ◌<◌}
use mathlib.Core.Path.{◌≡◌}
use mathlib.Core.Bool.{Bool, true, false}
use native.Mathlib.Numerals.{add-one}
use native.Mathlib.Omega.{arith}
use Rattle.fra.specs.Lists.{any, count}

-- of n numbers from 1 on, those past the first i are left
module _ (f : ℕ → Bool) (i n : ℕ) where
  more : i < n → n - i ≡ suc (n - (i + 1))
  more p = omega arith

  pub any_here : i < n → f (i + 1) ≡ true → any f (count (i + 1) (n - i)) ≡ true
  unfolding any count
  any_here p e = rw (more p, e)

  pub any-later : i < n → f (i + 1) ≡ false → any f (count (i + 1) (n - i)) ≡ any f (count (i + 1 + 1) (n - (i + 1)))
  unfolding any count
  any-later p e = rw (more p, e, add-one (i + 1))

  pub any-end : n ≤ i → any f (count (i + 1) (n - i)) ≡ false
  unfolding any count
  any-end p = let e : n - i ≡ 0 = omega arith in rw e
