-- Sets of state pairs that ranking keeps: where positions were lost in a pass, and from where rounds lead there.
use Rattle.std.specs.Prelude.{ℕ, zero, suc, ◌≡◌, Bool, true, cond, ◌&&◌, List, eqb, leb, ltb}
use Rattle.fra.specs.Lists.{◌∈◌}
use Rattle.fra.specs.Model.{edge_of}
use Rattle.fra.specs.Rules.{Rules}
use Rattle.fra.specs.Game.{lost_within}
use Rattle.fra.specs.Reach.{reached}
use Rattle.fra.specs.declared.Edge.{Edge}
use Rattle.fra.specs.declared.Model.{Model}
use Rattle.fra.specs.declared.Position.{Position}
use Rattle.fra.specs.declared.Task.{Task}
use Rattle.game_state_pairs.specs.StatePairs.{has_pair, with_pair, no_pairs}
use Rattle.listing.specs.Listing.{of_table, position_at, rounds_at}
use Rattle.comparer_rank_laws.specs.Levels.{ranked}

-- the set with the pair of each number below n added at which a test passes
unfoldable pub with_pairs : (ℕ → Bool) → (ℕ → ℕ) → (ℕ → ℕ) → List ℕ → ℕ → List ℕ
with_pairs test left right pairs zero = pairs
with_pairs test left right pairs (suc n) =
    cond (test n) (with_pair (with_pairs test left right pairs n) (left n) (right n)) (with_pairs test left right pairs n)

-- the rounds are not fewer than the first number, and fewer than the second
abbrev pub between : ℕ → ℕ → ℕ → Bool
between from below rounds = leb from rounds && ltb rounds below

-- the states of the positions of the first n entries that have rounds between these numbers
abbrev pub lost_pairs : List ℕ → ℕ → ℕ → ℕ → List ℕ
lost_pairs table from below n =
    with_pairs (λ i. between from below (rounds_at (of_table n) table i)) (λ i. (position_at (of_table n) table i).left)
    (λ i. (position_at (of_table n) table i).right)
    no_pairs
    n

-- the two edges have one tag, and lead to a pair of the set
abbrev pub leads_into : List ℕ → Edge → Edge → Bool
leads_into pairs e f = eqb e.tag f.tag && has_pair pairs e.to f.to

-- a set with the pairs added from which left edge e and one of the first n right edges lead into `lost`
abbrev pub with_sources_to : List ℕ → Edge → Model → List ℕ → ℕ → List ℕ
with_sources_to lost e right pairs n =
    with_pairs (λ j. leads_into lost e (edge_of right j)) (λ j. e.from) (λ j. (edge_of right j).from) pairs n

abbrev pub with_sources : List ℕ → Edge → Model → List ℕ → List ℕ
with_sources lost e right pairs = with_sources_to lost e right pairs right.edge_count

-- the pairs from which one of the first n left edges and a right edge lead into `lost`
unfoldable pub sources_to : Task → List ℕ → ℕ → List ℕ
sources_to t lost zero = no_pairs
sources_to t lost (suc n) = with_sources lost (edge_of t.left n) t.right (sources_to t lost n)

abbrev pub sources : Task → List ℕ → List ℕ
sources t lost = sources_to t lost t.left.edge_count

-- the set has the states of every position reached that is lost within k rounds and not within fewer
abbrev pub Covers : Rules → Task → ℕ → List ℕ → Type 0
Covers g t k pairs =
    (p : Position) → p ∈ reached g t → ranked g t k p ≡ true → has_pair pairs p.left p.right ≡ true

-- the set has the states of every position reached that is lost within k rounds
abbrev pub CoversLost : Rules → Task → ℕ → List ℕ → Type 0
CoversLost g t k pairs =
    (p : Position) → p ∈ reached g t → lost_within g t k p ≡ true → has_pair pairs p.left p.right ≡ true
