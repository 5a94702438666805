-- The parts of an index: how long they are, and how they are written one behind the other. Assumes nothing.
use Prim.Native.Nat.{ℕ, suc, ◌+◌}
use mathlib.Core.Path.{◌≡◌, refl, ◌∙◌}
use mathlib.Core.List.{List, [], ◌∷◌, ◌++◌, map, flat_map, append-nil}
use native.Mathlib.Omega.{arith}
use lib.ListN.{length, length-append, drop_of_length-le}
use lib.Seq.{sets, sets-eq}
use Rattle.fra.specs.Lists.{count}
use Rattle.fra.specs.Model.{edge_bytes}
use Rattle.fra.specs.Position.{bytes}
use Rattle.fra.specs.Rules.{model_of, game_number}
use Rattle.fra.specs.declared.Model.{Model}
use Rattle.fra.specs.declared.Task.{Task}
use Rattle.fra.specs.declared.Side.{Side}
use Rattle.fra.specs.declared.Side.TheVariants.{Left, Right}
use Rattle.fra.specs.declared.Game.{Game}
use Rattle.fra_laws.proofs.Lengths.{flat_map-length}
use Rattle.game_index.specs.Layout.{states_at, edges_at, codes, firsts_at, side_width, start_at, stated_at, size}
use Rattle.game_index.specs.Ranges.{first_edge}
use Rattle.game_index.specs.Writing.{flag, state_bytes, edge_entry, count_bytes, side_bytes, of, Sized}
use Rattle.fra_laws.proofs.ByPlace.{places-length}
use Rattle.game_indexing.proofs.Appended.{sets_behind}

-- ── A side: counts, states, edges, first edges ──

module _ (m : Model) where
  abbrev pub states_part : List ℕ
  states_part = flat_map state_bytes m.states

  abbrev pub edges_part : List ℕ
  edges_part = flat_map (edge_entry m) m.edges

  abbrev pub firsts_part : List ℕ
  firsts_part = map (first_edge m) (count 0 (suc codes))

  abbrev pub from_edges : List ℕ
  from_edges = edges_part ++ firsts_part

  abbrev pub from_states : List ℕ
  from_states = states_part ++ from_edges

  module _ (sized : Sized m) where
    pub states-length : states_at + length states_part ≡ edges_at
    states-length = omega (arith, flat_map-length state_bytes m.states 2 (λ s i. refl), sized.states)

    pub edges-length : edges_at + length edges_part ≡ firsts_at
    unfolding edge_bytes
    edges-length = omega (arith, flat_map-length (edge_entry m) m.edges 8 (λ s i. refl), sized.edges)

    pub side-length : length (side_bytes m) ≡ side_width
    unfolding side_bytes
    side-length =
        simp length-append (omega (arith, states-length, edges-length, places-length (first_edge m) (suc codes)))

    pub side-written : (old : List ℕ) (at : ℕ)
        → let counts = sets old at (count_bytes m) in
        let states = sets counts (at + states_at) states_part in
        let edges = sets states (at + edges_at) edges_part in
        sets edges (at + firsts_at) firsts_part ≡ sets old at (side_bytes m)
    unfolding side_bytes
    side-written old at =
        let counts = sets old at (count_bytes m) in
        let states = sets counts (at + states_at) states_part in
        sets_behind states (at + edges_at) edges_part firsts_part (at + firsts_at) (omega (arith, edges-length))
        ∙ sets_behind counts (at + states_at) states_part from_edges (at + edges_at) (omega (arith, states-length))
        ∙ sets_behind old at (count_bytes m) from_states (at + states_at) refl

-- ── The whole: left side, right side, start, whether its history size is stated, game ──

-- the arrays of a task have their declared lengths
pub record SizedTask (t : Task) : Type 0 where
  pub sides : (s : Side) → Sized (model_of t s)
  pub partners : length t.start.partners ≡ 6

module _ (t : Task) (g : Game) where
  abbrev pub from_stated : List ℕ
  from_stated = flag t.history_stated ∷ game_number g ∷ []

  abbrev pub from_start : List ℕ
  from_start = bytes t.start ++ from_stated

  abbrev pub from_right : List ℕ
  from_right = side_bytes t.right ++ from_start

  module _ (sized : SizedTask t) where
    pub left-length : length (side_bytes t.left) ≡ side_width
    left-length = side-length t.left (sized.sides Left)

    pub right-length : length (side_bytes t.right) ≡ side_width
    right-length = side-length t.right (sized.sides Right)

    pub start-length : start_at + length (bytes t.start) ≡ stated_at
    unfolding bytes
    start-length = simp length-append (omega (arith, sized.partners))

    of_length : length (of t g) ≡ size
    unfolding of
    of_length = simp length-append (omega (arith, left-length, right-length, start-length))

    pub of-written : (old : List ℕ) → length old ≡ size
        → let left = sets old 0 (side_bytes t.left) in
        let right = sets left side_width (side_bytes t.right) in
        sets (sets right start_at (bytes t.start)) stated_at from_stated ≡ of t g
    unfolding of
    of-written old long =
        let left = sets old 0 (side_bytes t.left) in
        let right = sets left side_width (side_bytes t.right) in
        sets_behind right start_at (bytes t.start) from_stated stated_at (omega (arith, start-length))
        ∙ sets_behind left side_width (side_bytes t.right) from_start start_at (omega (arith, right-length))
        ∙ sets_behind old 0 (side_bytes t.left) from_right side_width (omega (arith, left-length))
        ∙ sets-eq (of t g) old 0 (omega (arith, of_length))
        ∙ rw (drop_of_length-le old {i = 0 + length (of t g)} (omega (arith, of_length))) (append-nil (of t g))
