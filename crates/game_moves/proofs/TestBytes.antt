-- A test as a byte, 1 or 0, times a number: the number where the test passes, else 0. Assumes nothing.
use Prim.Native.Nat.{ℕ, ◌*◌}
use mathlib.Core.Path.{◌≡◌}
use mathlib.Core.Bool.{Bool, true, false, cond}
use native.Mathlib.Omega.{arith}
use mir.Val.{bool_byte}

pub times_test : (test : Bool) (x : ℕ) → bool_byte test * x ≡ cond test x 0
times_test true x = omega arith
times_test false x = omega arith
