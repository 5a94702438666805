-- A round in two halves: what a left edge leaves of the matching, whichever right edge takes the same number, and what the right
-- edge then makes of it. For any register count.
use Rattle.std.specs.Prelude.{ℕ, suc, cond, List, [], ◌∷◌}
use Rattle.fra.specs.Registers.{has}
use Rattle.fra.specs.Game.{rejoined}

-- a register in its set, else 0
abbrev pub in_set : ℕ → ℕ → ℕ
in_set set i = cond (has set i) i 0

-- the partner of register i, if that is in the left to set, else 0
abbrev pub kept_at : ℕ → ℕ → ℕ → ℕ
kept_at left i x = cond (has left i) x 0

-- the partners, from left register i on, of the registers in the left to set
unfoldable pub kept_by : ℕ → ℕ → List ℕ → List ℕ
kept_by left i [] = []
kept_by left i (x ∷ xs) = kept_at left i x ∷ kept_by left (suc i) xs

-- the partners after the round, from left register i on, where left register a and right register b now hold the number
unfoldable pub joined_by : ℕ → ℕ → ℕ → ℕ → List ℕ → List ℕ
joined_by right a b i [] = []
joined_by right a b i (x ∷ xs) = in_set right (rejoined a b i x) ∷ joined_by right a b (suc i) xs
