-- Register sets: which registers a set below a power of two may have, and what the test `inside` says. Assumes nothing.
use Prim.Native.Nat.{ℕ, zero, suc, ◌+◌, ◌/◌, ◌%◌, ◌^◌, ◌≤◌, ◌<◌}
use mathlib.Core.Path.{◌≡◌, refl}
use mathlib.Core.Bool.{Bool, true, false, not, ◌||◌}
use native.Mathlib.Nat.{div-eq_of_lt, div-eq_of_lt-le, pow-le-pow_right, one-le-pow}
use native.Mathlib.Decide.{dec_lt}
use native.Mathlib.Omega.{arith}
use borrow.Author.Tests.{eqb-true, not-false}
use Rattle.fra.specs.Lists.{count}
use Rattle.fra.specs.Registers.{has, inside}
use Rattle.fra.specs.Valid.{Inside}
use Rattle.task.specs.Records.{Outside}
use Rattle.fra_laws.proofs.Tests.{or_false_left, or_false_right}
use Rattle.fra_laws.proofs.Lists.{all-at, all_counterexample, count_intro}
use Rattle.fra_laws.proofs.Registers.{has_positive}

-- a set below 2 ^ r has no register above r
pub has-below : (r set i : ℕ) → set < 2 ^ r → has set i ≡ true → i ≤ r
unfolding has
has-below r set zero small h = omega arith
has-below r set (suc k) small h = at (dec_lt k r)
  where
    at : Dec (k < r) → suc k ≤ r
    at (yes d) = d
    at (no d) =
        let grown : 2 ^ r ≤ 2 ^ k = pow-le-pow_right (omega arith) (omega arith) in
        let gone : set / 2 ^ k ≡ 0 = div-eq_of_lt (omega arith) in
        absurd (omega (arith, eqb-true (0 % 2) 1 (rw gone at h)))

-- a set of 2 ^ r or more has a register above r: its greatest
pub has_above : (r set : ℕ) → 2 ^ r ≤ set → (i : ℕ) × (has set i ≡ true) × (r < i)
unfolding has
has_above r set great = greatest (suc set) r (omega arith) great (omega arith)
  where
    greatest : (n k : ℕ) → set < 2 ^ k + n → 2 ^ k ≤ set → r ≤ k → (i : ℕ) × (has set i ≡ true) × (r < i)
    greatest zero k bound fits above = absurd (omega arith)
    greatest (suc n) k bound fits above = at (dec_lt set (2 ^ suc k)) (greatest n (suc k))
      where
        at : Dec (set < 2 ^ suc k)
            → (set < 2 ^ suc k + n → 2 ^ suc k ≤ set → r ≤ suc k → (i : ℕ) × (has set i ≡ true) × (r < i))
            → (i : ℕ) × (has set i ≡ true) × (r < i)
        at (yes d) rest =
            let one : set / 2 ^ k ≡ 1 = div-eq_of_lt-le (2 ^ k) (omega arith) (omega arith) in
            (suc k, rw one refl, omega arith)
        at (no d) rest = rest (omega (arith, one-le-pow k 2 (omega arith))) (omega arith) (omega arith)

-- ── inside ──

pub inside_true : (r set : ℕ) (other : ℕ → Bool) → ((i : ℕ) → has set i ≡ true → i ≤ r) → inside r set other ≡ true
    → Inside set other
unfolding inside
inside_true r set other existing h i e =
    let within = count_intro 1 r i (has_positive set i e) (omega (arith, existing i e)) in
    let test = all-at (λ i. not (has set i) || other i) h within in
    rw e at test

pub inside_false : (r set : ℕ) (other : ℕ → Bool) → inside r set other ≡ false → Outside set other
unfolding inside
inside_false r set other h =
    let w = all_counterexample (λ i. not (has set i) || other i) (count 1 r) h in (
      w.0,
      not-false (has set w.0) (or_false_left (not (has set w.0)) (other w.0) w.2),
      or_false_right (not (has set w.0)) (other w.0) w.2,
    )
