-- Counting the numbers that two readers hold together, register by register. Assumes nothing.
use Prim.Native.Nat.{ℕ, zero, suc, ◌+◌, ◌≤◌}
use mathlib.Core.Path.{◌≡◌, refl, ◌∙◌}
use mathlib.Core.Bool.{Bool, true, false}
use mathlib.Core.List.{List}
use native.Mathlib.Numerals.{add-one}
use native.Mathlib.Omega.{arith}
use mir.Val.{bool_byte}
use lib.ListN.{length}
use Rattle.fra.specs.Lists.{keep, count}
use Rattle.fra.specs.Registers.{has}
use Rattle.fra.specs.Position.{is_unshared, held_in}

-- how many of n numbers from k on pass a test
abbrev passing : (ℕ → Bool) → ℕ → ℕ → ℕ
passing f k n = length (keep f (count k n))

passing-first : (f : ℕ → Bool) (k n : ℕ) → passing f k (suc n) ≡ bool_byte (f k) + passing f (suc k) n
unfolding keep count
passing-first f k n = step (f k) refl
  where
    step : (b : Bool) → f k ≡ b → passing f k (suc n) ≡ bool_byte (f k) + passing f (suc k) n
    step true e = rw (e, keep) (omega arith)
    step false e = rw (e, keep) (omega arith)

-- one number more
passing-more : (f : ℕ → Bool) (k n : ℕ) → passing f k (suc n) ≡ passing f k n + bool_byte (f (n + k))
unfolding keep count
passing-more f k zero =
    let e : 0 + k ≡ k = omega arith in
    passing-first f k 0 ∙ rw e (omega arith)
passing-more f k (suc n) =
    let e : n + suc k ≡ suc n + k = omega arith in
    let a = passing-first f k (suc n) in
    let b = passing-first f k n in
    let c = rw e at (passing-more f (suc k) n) in
    omega arith

-- the numbers that the first n registers of both sides hold together
abbrev pub held_up_to : ℕ → ℕ → List ℕ → ℕ → ℕ
held_up_to left right partners n = passing (has left) 1 n + passing (is_unshared right partners) 1 n

pub held_none : (left right : ℕ) (partners : List ℕ) → held_up_to left right partners 0 ≡ 0
unfolding keep count
held_none left right partners = refl

pub held_more : (left right : ℕ) (partners : List ℕ) (n : ℕ)
    → held_up_to left right partners (n + 1)
    ≡ held_up_to left right partners n + (bool_byte (has left (n + 1)) + bool_byte (is_unshared right partners (n + 1)))
held_more left right partners n =
    let a = rw (add-one n) at (passing-more (has left) 1 n) in
    let b = rw (add-one n) at (passing-more (is_unshared right partners) 1 n) in
    rw (add-one n) (omega arith)

pub byte_small : (b : Bool) → bool_byte b ≤ 1
byte_small true = omega arith
byte_small false = omega arith

pub held_all : (left right : ℕ) (partners : List ℕ) → held_in left right partners ≡ held_up_to left right partners (length partners)
unfolding held_in
held_all left right partners = refl
