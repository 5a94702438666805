-- Register sets of one byte, and a test of every register from one on. Assumes nothing.
use Prim.Native.Nat.{ℕ, zero, suc, ◌+◌, ◌-◌, ◌*◌, ◌≤◌, ◌<◌, ◌/◌, ◌^◌}
use mathlib.Core.Path.{◌≡◌, refl}
use mathlib.Core.Bool.{Bool, true, false, not, ◌||◌, or-false}
use native.Mathlib.Nat.{div-eq_of_lt, le-div_iff_mul-le, one-le-pow, one-mul}
use native.Mathlib.Numerals.{add-one}
use native.Mathlib.Omega.{arith}
use lib.Dec.{leb, eqb, lit<, eqb-zero-suc}
use borrow.Author.Tests.{ne_eqb, leb-true, leb-false, lt-leb}
use Rattle.fra.specs.Lists.{all, count}
use Rattle.fra.specs.Registers.{has, inside, with}
use Rattle.fra_laws.proofs.Tests.{or_right}
use Rattle.fra.proofs.RegisterSets.{below_power}

-- ── The bits of a set ──

-- the bits from bit r on are those of the registers past r
pub overrun : (set r : ℕ) → not (eqb (set / 2 ^ r) 0) ≡ leb (2 ^ r) set
overrun set r = step (leb (2 ^ r) set) refl
  where
    step : (t : Bool) → leb (2 ^ r) set ≡ t → not (eqb (set / 2 ^ r) 0) ≡ leb (2 ^ r) set
    step true e =
        let f : 1 * 2 ^ r ≤ set = rw one-mul (leb-true (2 ^ r) set e) in
        let h : 1 ≤ set / 2 ^ r = (le-div_iff_mul-le (one-le-pow r 2 (lit< tt))).1 f in
        rw (e, ne_eqb (set / 2 ^ r) 0 (λ z. absurd (omega arith)))
    step false e = rw (e, div-eq_of_lt (leb-false (2 ^ r) set e))

pub no_overrun : (set r : ℕ) → set < 256 → 8 ≤ r → leb (2 ^ r) set ≡ false
no_overrun set r p q = lt-leb (2 ^ r) set (below_power set r p q)

-- ── A test of the registers from one on ──

-- the numbers from i to r
abbrev pub up_to : ℕ → ℕ → (ℕ → Bool) → Bool
up_to i r f = all f (count i (suc r - i))

pub all_first : (f : ℕ → Bool) (r : ℕ) → all f (count 1 r) ≡ up_to 1 r f
all_first f r = let e : suc r - 1 ≡ r = omega arith in rw e

module _ (f : ℕ → Bool) (i r : ℕ) where
  more : i ≤ r → suc r - i ≡ suc (r - i)
  more p = omega arith

  -- the test fails here
  pub all_here : i ≤ r → f i ≡ false → up_to i r f ≡ false
  unfolding all count
  all_here p e = rw (more p, e)

  -- it passes here, so it is left to what follows
  pub all-later : i ≤ r → f i ≡ true → up_to i r f ≡ up_to (i + 1) r f
  unfolding all count
  all-later p e =
      let n : suc r - (i + 1) ≡ r - i = omega arith in
      rw (more p, e, n, add-one)

  pub all_end : r < i → up_to i r f ≡ true
  unfolding all count
  all_end p = let n : suc r - i ≡ 0 = omega arith in rw n

-- ── A set inside another ──

module _ (set other added i : ℕ) where
  -- register i is in the set only if it is in the other one or is added
  abbrev pub stays : Bool
  stays = not (has set i) || with other added i

  pub stays-outside : has set i ≡ false → stays ≡ true
  stays-outside e = rw e

  pub stays-inside : has other i ≡ true → stays ≡ true
  unfolding with
  stays-inside e = rw e (or_right (not (has set i)) true refl)

  pub stays-added : has set i ≡ true → has other i ≡ false → stays ≡ eqb added i
  unfolding with
  stays-added p q = rw (p, q)

-- register 0 adds nothing to a set
pub add_nothing : (r set other : ℕ) → inside r set (with other 0) ≡ inside r set (has other)
unfolding inside with all count
add_nothing r set other = same 0 r
  where
    one : (j : ℕ) → (has other (suc j) || eqb 0 (suc j)) ≡ has other (suc j)
    one j = rw (eqb-zero-suc j) (or-false (has other (suc j)))

    same : (k n : ℕ)
        → all (λ i. not (has set i) || (has other i || eqb 0 i)) (count (suc k) n)
        ≡ all (λ i. not (has set i) || has other i) (count (suc k) n)
    same k zero = refl
    same k (suc n) = rw (one k, same (suc k) n)
