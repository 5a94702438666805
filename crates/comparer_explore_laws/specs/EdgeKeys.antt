-- The keys of the positions that pairs of a left and a right edge lead to.
use Rattle.std.specs.Prelude.{ℕ, ◌≤◌, ◌<◌, ◌≡◌, Bool, true, List}
use Rattle.fra.specs.Lists.{◌∈◌}
use Rattle.fra.specs.Model.{edge_of}
use Rattle.fra.specs.Position.{has_room}
use Rattle.fra.specs.declared.Position.{Position}
use Rattle.fra.specs.declared.Side.TheVariants.{Left, Right}
use Rattle.fra_laws.specs.Joint.{compatible, sizes_after}
use Rattle.game_moves.specs.AfterRound.{moved_to}
use Rattle.game_index.specs.Reading.{model_in, task_in}
use Rattle.game_index.specs.Ranges.{tag_range}
use Rattle.game_index.specs.Transitions.{transition_of}
use Rattle.game_index.specs.declared.Range.{Range}
use Rattle.game_index.specs.declared.Transition.{Transition}
use Rattle.table_keys.specs.Keys.{key_of, radix_of, Fits}
use Rattle.table_keys.specs.declared.Radix.{Radix}
use Rattle.key_set_laws.specs.Growth.{Among}

-- the edges can take one number in a round, and k is the key of a position after it; whether the history has room for a number
-- seen before is given
abbrev pub PairKey : Radix → Bool → Position → Transition → Transition → ℕ → Type 0
PairKey x room p left right k =
    (compatible p Left left.kind right.kind ≡ true)
    × (size : ℕ)
    × (size ∈ sizes_after 6 room p.history left.kind right.kind)
    × (k ≡ key_of x (moved_to p size left.target right.target))

-- all positions after such rounds fit a key
abbrev pub PairFits : Radix → Bool → Position → Transition → Transition → Type 0
PairFits x room p left right =
    compatible p Left left.kind right.kind ≡ true
    → (size : ℕ)
    → size ∈ sizes_after 6 room p.history left.kind right.kind
    → Fits x (moved_to p size left.target right.target)

-- the same for a left edge and the right edges of a range
abbrev pub RangeKey : List ℕ → Radix → Bool → Position → Transition → Range → ℕ → Type 0
RangeKey b x room p left edges k =
    Among edges.first edges.end (λ j. PairKey x room p left (transition_of (model_in b Right) j)) k

abbrev pub RangeFits : List ℕ → Radix → Bool → Position → Transition → Range → Type 0
RangeFits b x room p left edges =
    (j : ℕ) → edges.first ≤ j → j < edges.end → PairFits x room p left (transition_of (model_in b Right) j)

-- the same for left edge number i and the right edges that have its tag
abbrev pub tagged : List ℕ → Position → ℕ → Range
tagged b p i = tag_range (model_in b Right) p.right (edge_of (model_in b Left) i).tag

abbrev pub EdgeKey : List ℕ → Position → ℕ → ℕ → Type 0
EdgeKey b p i k =
    RangeKey b (radix_of (task_in b)) (has_room (task_in b) p) p (transition_of (model_in b Left) i) (tagged b p i) k
