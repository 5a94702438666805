-- What is read of the bytes of an index: its models' states and edges, and the game. Assumes nothing.
use Prim.Native.Nat.{ℕ, ◌+◌, ◌*◌, ◌≤◌, ◌<◌}
use mathlib.Core.Path.{◌≡◌, refl, ap}
use mathlib.Core.Bool.{true}
use mathlib.Core.List.{List}
use native.Mathlib.Omega.{arith}
use lib.ListN.{get_or, get_or-eq_default}
use Rattle.fra.specs.Model.{no_state, no_edge, set_of, mark_of, edge_of}
use Rattle.fra.specs.Rules.{model_of, rules_of}
use Rattle.fra.specs.declared.State.{State}
use Rattle.fra.specs.declared.Side.{Side}
use Rattle.fra.specs.declared.Side.TheVariants.{Left, Right}
use Rattle.fra.specs.declared.Game.{Game}
use Rattle.fra.specs.declared.Game.TheVariants.{BothAttack, LeftAttacks}
use Rattle.fra_laws.proofs.Legal.{valid-side}
use Rattle.game_index.specs.Layout.{states_at, state_places, state_width, edge_places}
use Rattle.game_index.specs.Reading.{side_byte, state_in, edge_in, model_in, task_in, game_in, rules_in}
use Rattle.game_index.specs.Writing.{Sized, IndexableModel, Index}
use Rattle.fra_laws.proofs.ByPlace.{places-length, places-at}

-- ── The task ──

pub model_in_lem : (b : List ℕ) (s : Side) → model_of (task_in b) s ≡ model_in b s
unfolding task_in
model_in_lem b Left = refl
model_in_lem b Right = refl

-- the model of a side is one that has an index
pub index-model : {b : List ℕ} → Index b → (s : Side) → IndexableModel (model_in b s)
index-model {b} h s =
    record {
      valid = rw (model_in_lem b s) at (valid-side h.indexable.valid s);
      tags = rw (model_in_lem b s) at (h.indexable.tags s);
    }

-- ── The states and the edges of a side ──

module _ (b : List ℕ) (s : Side) where
  pub sized_in : Sized (model_in b s)
  unfolding model_in
  sized_in =
      record { states = places-length (state_in b s) state_places; edges = places-length (edge_in b s) edge_places }

  module _ (q : ℕ) where
    state_in_lem : q < state_places → get_or (model_in b s).states q no_state ≡ state_in b s q
    unfolding model_in
    state_in_lem h = places-at (state_in b s) state_places q no_state h

    pub set_in_lem : q < state_places → set_of (model_in b s) q ≡ side_byte b s (states_at + state_width * q)
    unfolding set_of
    set_in_lem h = ap (λ (x : State). x.set) (state_in_lem h)

    pub mark_in : q < state_places → mark_of (model_in b s) q ≡ side_byte b s (states_at + state_width * q + 1)
    unfolding mark_of
    mark_in h = ap (λ (x : State). x.mark) (state_in_lem h)

    -- past the states there is none
    no_state_lem : state_places ≤ q → get_or (model_in b s).states q no_state ≡ no_state
    no_state_lem h = get_or-eq_default (model_in b s).states no_state {n = q} (omega (arith, sized_in.states))

    pub no_set : state_places ≤ q → set_of (model_in b s) q ≡ 0
    unfolding set_of
    no_set h = ap (λ (x : State). x.set) (no_state_lem h)

    pub no_mark : state_places ≤ q → mark_of (model_in b s) q ≡ 0
    unfolding mark_of
    no_mark h = ap (λ (x : State). x.mark) (no_state_lem h)

  pub edge_in_lem : (k : ℕ) → k < edge_places → edge_of (model_in b s) k ≡ edge_in b s k
  unfolding model_in edge_of
  edge_in_lem k h = places-at (edge_in b s) edge_places k no_edge h

  pub no_edge_lem : (k : ℕ) → edge_places ≤ k → edge_of (model_in b s) k ≡ no_edge
  unfolding edge_of
  no_edge_lem k h = get_or-eq_default (model_in b s).edges no_edge {n = k} (omega (arith, sized_in.edges))

-- there is no more than a place for each
pub few_edges : {b : List ℕ} → Index b → (s : Side) → (model_of (task_in b) s).edge_count ≤ edge_places
few_edges {b} h s = rw (model_in_lem b s) (omega (arith, (index-model h s).valid.edges_placed, (sized_in b s).edges))

-- ── The game ──

-- the left side attacks in every game
pub left-attacks : (b : List ℕ) → (rules_in b).attacks Left ≡ true
left-attacks b = of (game_in b)
  where
    of : (g : Game) → (rules_of g).attacks Left ≡ true
    of BothAttack = refl
    of LeftAttacks = refl
