-- A round in two halves, as exploring takes it.
use Rattle.std.specs.Prelude.{ℕ, ◌+◌, ◌*◌, ◌≤◌, ◌<◌, ◌≡◌, false, List, length, get_or, take, Some}
use Rattle.fra.specs.Model.{edge_of}
use Rattle.fra.specs.declared.Position.{Position}
use Rattle.fra.specs.declared.Side.TheVariants.{Right}
use Rattle.game_moves.specs.declared.rounds.Target.{Target}
use Rattle.game_index.specs.Layout.{edge_places}
use Rattle.game_index.specs.Reading.{model_in}
use Rattle.game_index.specs.Transitions.{transition_of}
use Rattle.game_index.specs.Writing.{drops}
use Rattle.game_index.specs.declared.Range.{Range}
use Rattle.table_keys.specs.Keys.{partner_base}
use Rattle.table_keys.specs.declared.Radix.{Radix}
use Rattle.comparer_explore_laws.specs.HalfRounds.{in_set, kept_by, joined_by}
use Rattle.comparer_explore_laws.specs.PartnerSums.{word_of, word_limit}
use Rattle.comparer_explore.specs.Sums.{RestOf}
use Rattle.comparer_explore.specs.declared.expand.Half.{Half}
use Rattle.comparer_explore.specs.declared.sums.Rest.{Rest}

-- what its left edge leaves of a position's matching
pub record Halves (p : Position) (half : Half) : Type 0 where
  pub partners : half.partners ≡ kept_by half.edge.target.set 1 p.partners
  pub register : half.register ≡ in_set half.edge.target.set half.edge.target.register

-- all of it: the edge drops no register that has a partner, nor the one that it takes
pub record Undropped (x : Radix) (p : Position) (l : Target) : Type 0 where
  pub partners : kept_by l.set 1 p.partners ≡ p.partners
  pub register : in_set l.set l.register ≡ l.register
  pub least : 1 ≤ l.register
  pub greatest : l.register ≤ x.registers

-- the half of a round that a left edge makes, with the numbers that keys are made of where it drops no register
pub record HalfOf (x : Radix) (p : Position) (half : Half) : Type 0 where
  pub halves : Halves p half
  pub whole : (rest : Rest) → half.rest ≡ Some rest → Undropped x p half.edge.target
  pub rest : (rest : Rest) → half.rest ≡ Some rest → RestOf x p half.edge.target.register rest

-- the position after both halves, where a right edge leads: the game's `moved`
unfoldable pub joined_to : Half → ℕ → Target → Position
joined_to half size r =
    record {
      left = half.edge.target.state;
      right = r.state;
      partners = joined_by r.set half.register r.register 1 half.partners;
      history = size;
    }

-- the numbers of a half say what the number of the partners is then
pub record Summed (x : Radix) (half : Half) (rest : Rest) (r : Target) : Type 0 where
  pub long : length rest.adds ≡ partner_base
  pub digit : r.register < partner_base
  pub small : get_or rest.adds r.register 0 < word_limit
  pub sum : word_of (take x.registers (joined_by r.set half.register r.register 1 half.partners))
      + get_or rest.adds r.register 0
      ≡ rest.word + r.register * rest.place

-- the same of the numbers that it has, where it has any
abbrev pub SummedBy : Radix → Half → Target → Type 0
SummedBy x half r = (rest : Rest) → half.rest ≡ Some rest → Summed x half rest r

-- so for the right edges of a range that drop no register
pub record RangeSummed (b : List ℕ) (x : Radix) (half : Half) (edges : Range) : Type 0 where
  pub places : (j : ℕ) → edges.first ≤ j → j < edges.end → j < edge_places
  pub sums : (j : ℕ) → edges.first ≤ j → j < edges.end
      → drops (model_in b Right) (edge_of (model_in b Right) j) ≡ false
      → SummedBy x half (transition_of (model_in b Right) j).target
