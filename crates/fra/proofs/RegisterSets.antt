-- Register sets of one byte. Assumes nothing.
use Prim.Native.Nat.{ℕ, zero, suc, ◌-◌, ◌≤◌, ◌<◌, ◌/◌, ◌%◌, ◌^◌}
use mathlib.Core.Path.{◌≡◌, refl}
use mathlib.Core.Bool.{false}
use native.Mathlib.Nat.{div-eq_of_lt, pow-le-pow_right, lt_of_lt_of_le}
use native.Mathlib.Omega.{arith}
use lib.Dec.{eqb, lit<}
use Rattle.fra.specs.Registers.{has}

-- one byte is below every power of two from the eighth on
pub below_power : (n k : ℕ) → n < 256 → 8 ≤ k → n < 2 ^ k
below_power n k p q = lt_of_lt_of_le p (pow-le-pow_right {n = 2} (lit< tt) {i = 8} {j = k} q)

-- a set of one byte has no register past the eighth
pub has_none : (set i : ℕ) → set < 256 → 8 < i → has set i ≡ false
unfolding has
has_none set zero p q = refl
has_none set (suc k) p q = rw (div-eq_of_lt (below_power set k p (omega arith)))

pub has_bit : (set i : ℕ) → 0 < i → has set i ≡ eqb (set / 2 ^ (i - 1) % 2) 1
unfolding has
has_bit set zero p = absurd (omega arith)
has_bit set (suc k) p = let e : suc k - 1 ≡ k = omega arith in rw e
