-- Decimal digits: the last one and those before it, and how many there are. Assumes nothing.
use Prim.Native.Nat.{ℕ, zero, suc, ◌+◌, ◌*◌, ◌/◌, ◌%◌, ◌^◌, ◌≤◌, ◌<◌}
use mathlib.Core.Path.{◌≡◌, refl, sym, ap, ◌∙◌}
use mathlib.Core.Logic.{◌⊎◌, inl, inr, ⊎_elim}
use mathlib.Core.Bool.{Bool, true, false}
use mathlib.Core.List.{List, [], ◌∷◌, ◌++◌}
use native.Mathlib.Omega.{arith}
use native.Mathlib.Nat.{pow-suc}
use lib.ListN.{length, length-append}
use lib.Dec.{ltb}
use borrow.Author.Tests.{ltb-true, ltb-false, lt-ltb, le-ltb}
use Rattle.text.specs.Text.{digit, digits_within, decimal, spaced}
use Rattle.text.specs.LentLine.{longest_number}

one_digit : (k n : ℕ) → n < 10 → digits_within k n ≡ digit n ∷ []
unfolding digits_within
one_digit zero n h = refl
one_digit (suc k) n h = rw (lt-ltb n 10 h, digits_within)

more-digits : (k n : ℕ) → 10 ≤ n → digits_within (suc k) n ≡ digits_within k (n / 10) ++ (digit (n % 10) ∷ [])
unfolding digits_within
more-digits k n h = rw (le-ltb n 10 h, digits_within)

pub one_or_more : (n : ℕ) → (n < 10) ⊎ (10 ≤ n)
one_or_more n = by (ltb n 10) refl
  where
    by : (b : Bool) → ltb n 10 ≡ b → (n < 10) ⊎ (10 ≤ n)
    by true e = inl (ltb-true n 10 e)
    by false e = inr (ltb-false n 10 e)

-- a bound on the digits that is large enough does not matter
bound_free : (j k n : ℕ) → n ≤ j → n ≤ k → digits_within j n ≡ digits_within k n
bound_free zero k n p q = one_digit zero n (omega arith) ∙ sym (one_digit k n (omega arith))
bound_free (suc j) zero n p q = one_digit (suc j) n (omega arith) ∙ sym (one_digit zero n (omega arith))
bound_free (suc j) (suc k) n p q =
    ⊎_elim (λ h. one_digit (suc j) n h ∙ sym (one_digit (suc k) n h))
    (λ h.
    more-digits j n h
    ∙ ap (λ (l : List ℕ). l ++ (digit (n % 10) ∷ [])) (bound_free j k (n / 10) (omega arith) (omega arith))
    ∙ sym (more-digits k n h))
    (one_or_more n)

pub decimal_last : (n : ℕ) → n < 10 → decimal n ≡ digit n ∷ []
unfolding decimal
decimal_last n h = one_digit n n h

pub decimal-more : (n : ℕ) → 10 ≤ n → decimal n ≡ decimal (n / 10) ++ (digit (n % 10) ∷ [])
unfolding decimal
decimal-more n h =
    bound_free n (suc n) n (omega arith) (omega arith) ∙ more-digits n n h
    ∙ ap (λ (l : List ℕ). l ++ (digit (n % 10) ∷ [])) (bound_free n (n / 10) (n / 10) (omega arith) (omega arith))

-- one digit more
pub length_more : (n : ℕ) → 10 ≤ n → length (decimal n) ≡ length (decimal (n / 10)) + 1
length_more n h = ap length (decimal-more n h) ∙ length-append (decimal (n / 10)) (digit (n % 10) ∷ [])

pub some-digit : (n : ℕ) → 1 ≤ length (decimal n)
some-digit n =
    ⊎_elim (λ h. rw (decimal_last n h) (omega arith)) (λ h. omega (arith, length_more n h)) (one_or_more n)

digits-most : (k n : ℕ) → n < 10 ^ suc k → length (decimal n) ≤ suc k
digits-most zero n h = rw (decimal_last n h) (omega arith)
digits-most (suc k) n h =
    ⊎_elim (λ m. rw (decimal_last n m) (omega arith))
    (λ m.
    let fewer : n / 10 < 10 ^ suc k = omega (arith, pow-suc 10 (suc k)) in
    omega (arith, length_more n m, digits-most k (n / 10) fewer))
    (one_or_more n)

digits-least : (k n : ℕ) → 10 ^ k ≤ n → k + 1 ≤ length (decimal n)
digits-least zero n h = some-digit n
digits-least (suc k) n h =
    let more : 10 ^ k ≤ n / 10 = omega (arith, pow-suc 10 k) in
    let some : 1 ≤ 10 ^ k = pow-positive k in
    let many : 10 ≤ n = omega (arith, pow-suc 10 k) in
    omega (arith, length_more n many, digits-least k (n / 10) more)
  where
    pow-positive : (k : ℕ) → 1 ≤ 10 ^ k
    pow-positive zero = omega arith
    pow-positive (suc k) = omega (arith, pow-suc 10 k, pow-positive k)

-- the digits of a number between two powers of ten
pub digits-between : (k n : ℕ) → 10 ^ k ≤ n → n < 10 * 10 ^ k → k + 1 ≡ length (decimal n)
digits-between k n least most =
    let below : n < 10 ^ suc k = omega (arith, pow-suc 10 k) in
    omega (arith, digits-least k n least, digits-most k n below)

-- a number of four bytes has at most ten digits
pub ten_digits : (n : ℕ) → n < 2 ^ 32 → length (decimal n) ≤ 10
ten_digits n h = digits-most 9 n (omega arith)

pub number_fits : (n : ℕ) → n < 2 ^ 32 → length (spaced n) ≤ longest_number
unfolding spaced
number_fits n h = omega (arith, ten_digits n h)
