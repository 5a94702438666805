-- Register sets, for any register count: bit 0 is register 1.
use Rattle.std.specs.Prelude.{ℕ, zero, suc, ◌/◌, ◌%◌, ◌^◌, Bool, false, not, ◌||◌, eqb}
use Rattle.fra.specs.Lists.{all, count}

-- 01, "The task file": "register set (bit 0 is register 1)"; registers are "numbered from 1"
unfoldable pub has : ℕ → ℕ → Bool
has set zero = false
has set (suc k) = eqb (set / 2 ^ k % 2) 1

-- the set lies inside the other one, judged on registers 1 to r
unfoldable pub inside : ℕ → ℕ → (ℕ → Bool) → Bool
inside r set other = all (λ i. not (has set i) || other i) (count 1 r)

-- the set with register i added
unfoldable pub with : ℕ → ℕ → ℕ → Bool
with set i j = has set j || eqb i j
