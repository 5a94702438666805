-- What the numbers say that a key after a round is made of.
use Rattle.std.specs.Prelude.{ℕ, ◌+◌, ◌*◌, ◌<◌, ◌≡◌, List, length, get_or, take}
use Rattle.fra.specs.declared.Position.{Position}
use Rattle.table_keys.specs.Keys.{partner_base}
use Rattle.table_keys.specs.declared.Radix.{Radix}
use Rattle.comparer_explore_laws.specs.PartnerSums.{rejoined_by, word_of, AddsOf, word_limit}
use Rattle.comparer_explore.specs.declared.sums.Sums.{Sums}
use Rattle.comparer_explore.specs.declared.sums.Rest.{Rest}

-- the partners that a key has digits for
abbrev pub partners_in : Radix → Position → List ℕ
partners_in x p = take x.registers p.partners

-- the numbers of a position
pub record SumsOf (x : Radix) (p : Position) (s : Sums) : Type 0 where
  pub word : s.word ≡ word_of (partners_in x p)
  pub adds : AddsOf (partners_in x p) s.adds

-- left register a is written: whichever right register b takes the same number, what the number of the partners then is
pub record RestOf (x : Radix) (p : Position) (a : ℕ) (s : Rest) : Type 0 where
  pub long : length s.adds ≡ partner_base
  pub small : (b : ℕ) → b < partner_base → get_or s.adds b 0 < word_limit
  pub sum : (b : ℕ) → b < partner_base
      → word_of (take x.registers (rejoined_by a b 1 p.partners)) + get_or s.adds b 0 ≡ s.word + b * s.place
