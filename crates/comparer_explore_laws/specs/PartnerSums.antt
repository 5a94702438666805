-- Partners as one number of digits, and what a round changes of it where no register is dropped. For any register count.
use Rattle.std.specs.Prelude.{ℕ, suc, ◌+◌, ◌*◌, ◌^◌, ◌<◌, ◌≡◌, cond, List, [], ◌∷◌, length, get_or, eqb}
use Rattle.fra.specs.Game.{rejoined}
use Rattle.listing.specs.Digits.{value}
use Rattle.table_keys.specs.Keys.{partner_base}

-- the partners after a round that drops no register, from left register i on, where left register a and right register b now
-- hold the number
unfoldable pub rejoined_by : ℕ → ℕ → ℕ → List ℕ → List ℕ
rejoined_by a b i [] = []
rejoined_by a b i (x ∷ xs) = rejoined a b i x ∷ rejoined_by a b (suc i) xs

-- what a partner counts that so many others follow
abbrev pub place_of : ℕ → ℕ
place_of n = partner_base ^ n

-- the partners as one number
abbrev pub word_of : List ℕ → ℕ
word_of l = value partner_base 0 l

-- 8 ^ 6: the number of six partners is less
abbrev pub word_limit : ℕ
word_limit = 262144

-- what of it comes from the pairs of right register b
unfoldable pub added_by : ℕ → List ℕ → ℕ
added_by b [] = 0
added_by b (x ∷ xs) = cond (eqb x b) (x * place_of (length xs)) 0 + added_by b xs

-- for each right register what its pairs add to the number of the partners
pub record AddsOf (l adds : List ℕ) : Type 0 where
  pub long : length adds ≡ partner_base
  pub each : (b : ℕ) → b < partner_base → get_or adds b 0 ≡ added_by b l
