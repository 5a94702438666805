-- Numbers written in digits of any base, the highest first.
use Rattle.std.specs.Prelude.{ℕ, zero, suc, ◌+◌, ◌*◌, ◌/◌, ◌%◌, ◌^◌, ◌<◌, List, [], ◌∷◌}

-- the number that a string of digits continues, from what stands before it
unfoldable pub value : ℕ → ℕ → List ℕ → ℕ
value base before [] = before
value base before (d ∷ ds) = value base (before * base + d) ds

-- the last n digits of a number
unfoldable pub digits : ℕ → ℕ → ℕ → List ℕ
digits base zero k = []
digits base (suc n) k = k / base ^ n % base ∷ digits base n k

-- each digit is below the base
abbrev pub Below : ℕ → List ℕ → Type 0
Below base [] = Unit {0}
Below base (d ∷ ds) = (d < base) × Below base ds
