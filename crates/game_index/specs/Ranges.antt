-- The edges of a model by their codes: those of a state, and of a state and a tag, are ranges of numbers.
use Rattle.std.specs.Prelude.{ℕ, zero, suc, ◌+◌, ◌*◌, ◌-◌, true, false, cond, ◌&&◌, List, ltb, eqb}
use Rattle.fra.specs.Lists.{keep, count}
use Rattle.fra.specs.Model.{edge_of, kind_number}
use Rattle.fra.specs.declared.Edge.{Edge}
use Rattle.fra.specs.declared.Model.{Model}
use Rattle.game_index.specs.Layout.{state_places, tag_places, kind_places}
use Rattle.game_index.specs.declared.Range.{Range}

-- the edges that start in a state
unfoldable pub edges_of : Model → ℕ → List ℕ
edges_of m q = keep (λ k. eqb (edge_of m k).from q) (count 0 m.edge_count)

-- the edges that start in a state and have a tag
unfoldable pub tagged_of : Model → ℕ → ℕ → List ℕ
tagged_of m q tag =
    keep (λ k. eqb (edge_of m k).from q && eqb (edge_of m k).tag tag) (count 0 m.edge_count)

-- ── Codes ──

-- the least code of a state and a tag
abbrev pub code_of : ℕ → ℕ → ℕ
code_of q tag = (q * tag_places + tag) * kind_places

-- an edge's code: state, tag and kind
abbrev pub edge_code : Edge → ℕ
edge_code e = code_of e.from e.tag + kind_number e.kind

-- of n places from i on, the first at which f is not below x; the place past them if there is none
unfoldable pub lower : (ℕ → ℕ) → ℕ → ℕ → ℕ → ℕ
lower f x i zero = i
lower f x i (suc n) = elim (ltb (f i) x) [ true ↦ lower f x (suc i) n | false ↦ i ]

-- the first edge whose code is not below c
abbrev pub first_edge : Model → ℕ → ℕ
first_edge m c = lower (λ k. edge_code (edge_of m k)) c 0 m.edge_count

-- ── Ranges ──

-- the numbers of a range
abbrev pub within : Range → List ℕ
within r = count r.first (r.end - r.first)

abbrev pub between : Model → ℕ → ℕ → Range
between m c d = record { first = first_edge m c; end = first_edge m d }

abbrev pub empty : Range
empty = record { first = 0; end = 0 }

-- that of the edges that start in a state
unfoldable pub state_range : Model → ℕ → Range
state_range m q = cond (ltb q state_places) (between m (code_of q 0) (code_of (suc q) 0)) empty

-- that of those which have a tag
unfoldable pub tag_range : Model → ℕ → ℕ → Range
tag_range m q tag =
    cond (ltb q state_places && ltb tag tag_places) (between m (code_of q tag) (code_of q (suc tag))) empty
