-- The bytes that are written for a task and a game are an index, and what is read from it is that task and that game. Assumes
-- nothing.
use Prim.Native.Nat.{ℕ, ◌+◌, ◌*◌, ◌≤◌, ◌<◌}
use mathlib.Core.Path.{◌≡◌, refl, ◌∙◌, ap₂}
use mathlib.Core.List.{List}
use native.Mathlib.Omega.{arith}
use lib.ListN.{get_or}
use lib.Dec.{eqb}
use Rattle.fra.specs.Model.{no_state, no_edge, set_of, edge_of, edge_bytes, kind_of}
use Rattle.fra.specs.Position.{bytes}
use Rattle.fra.specs.Rules.{model_of, game_number, game_of}
use Rattle.fra.specs.declared.Model.{Model}
use Rattle.fra.specs.declared.Task.{Task}
use Rattle.fra.specs.declared.Side.{Side}
use Rattle.fra.specs.declared.Side.TheVariants.{Left, Right}
use Rattle.fra.specs.declared.Game.{Game}
use Rattle.fra.specs.declared.Game.TheVariants.{BothAttack, LeftAttacks}
use Rattle.game_index.specs.Layout.{states_at, state_places, state_width, edges_at, edge_places, edge_width, codes, firsts_at}
use Rattle.game_index.specs.Layout.{partners_at, stated_at}
use Rattle.game_index.specs.Reading.{side_byte, edge_byte, state_in, edge_in, model_in, start_in, task_in, game_in}
use Rattle.game_index.specs.Ranges.{first_edge}
use Rattle.game_index.specs.Writing.{state_bytes, edge_entry, side_bytes, of, Indexable, Index, Indexes}
use Rattle.fra_laws.proofs.KindNumbers.{kind_of-number}
use Rattle.fra_laws.proofs.ByPlace.{listed}
use Rattle.game_indexing.specs.Indexed.{Indexed}
use Rattle.game_indexing.proofs.Flags.{flag-read}
use Rattle.game_indexing.proofs.IndexParts.{SizedTask}
use Rattle.game_indexing.proofs.IndexBytes.{state-byte, edge-byte, first_byte, side-byte}
use Rattle.game_indexing.proofs.IndexBytes.{start-byte, partner-byte, history-byte, stated_byte, game-byte}

module _ (t : Task) (g : Game) (sized : SizedTask t) where
  -- ── The models ──

  module _ (s : Side) where
    abbrev m : Model
    m = model_of t s

    count_at : (i : ℕ) → i < states_at → side_byte (of t g) s i ≡ get_or (side_bytes m) i 0
    count_at i h = side-byte t g sized s i (omega arith)

    state-at : (q i place : ℕ) → place ≡ states_at + (state_width * q + i) → q < state_places → i < state_width
        → side_byte (of t g) s place ≡ get_or (state_bytes (get_or m.states q no_state)) i 0
    state-at q i place e h b = side-byte t g sized s place (omega arith) ∙ rw e (state-byte m (sized.sides s) q i h b)

    edge-at : (k i : ℕ) → k < edge_places → i < edge_width → edge_byte (of t g) s k i ≡ get_or (edge_entry m (edge_of m k)) i 0
    unfolding edge_of
    edge-at k i h b =
        let place : edges_at + edge_width * k + i ≡ edges_at + (edge_width * k + i) = omega arith in
        side-byte t g sized s (edges_at + edge_width * k + i) (omega arith) ∙ rw place (edge-byte m (sized.sides s) k i h b)

    state_in_lem : (q : ℕ) → q < state_places → state_in (of t g) s q ≡ get_or m.states q no_state
    state_in_lem q h =
        λ i.
        record {
          set = state-at q 0 (states_at + state_width * q) (omega arith) h (omega arith) i;
          mark = state-at q 1 (states_at + state_width * q + 1) (omega arith) h (omega arith) i;
        }

    edge_in_lem : (k : ℕ) → k < edge_places → edge_in (of t g) s k ≡ get_or m.edges k no_edge
    unfolding edge_of edge_bytes
    edge_in_lem k h =
        let kind = ap₂ kind_of (edge-at k 2 h (omega arith)) (edge-at k 3 h (omega arith)) ∙ kind_of-number (edge_of m k).kind in
        λ i.
        record {
          from = edge-at k 0 h (omega arith) i;
          tag = edge-at k 1 h (omega arith) i;
          kind = kind i;
          to = edge-at k 4 h (omega arith) i;
        }

    model_in_lem : model_in (of t g) s ≡ m
    unfolding model_in side_bytes
    model_in_lem =
        let states = listed (state_in (of t g) s) state_places m.states no_state (sized.sides s).states state_in_lem in
        let edges = listed (edge_in (of t g) s) edge_places m.edges no_edge (sized.sides s).edges edge_in_lem in
        λ i.
        record {
          registers = count_at 0 (omega arith) i;
          start = count_at 1 (omega arith) i;
          state_count = count_at 2 (omega arith) i;
          edge_count = count_at 3 (omega arith) i;
          states = states i;
          edges = edges i;
        }

    first-at : (c : ℕ) → c ≤ codes → side_byte (of t g) s (firsts_at + c) ≡ first_edge m c
    first-at c h = side-byte t g sized s (firsts_at + c) (omega arith) ∙ first_byte m (sized.sides s) c h

  -- ── The task and the game ──

  start_in_lem : start_in (of t g) ≡ t.start
  unfolding bytes
  start_in_lem =
      let partners =
      listed (λ j. get_or (of t g) (partners_at + j) 0) 6 t.start.partners 0 sized.partners
      (λ j b. partner-byte t g sized j (omega arith)) in
      λ i.
      record {
        left = start-byte t g sized 0 (omega arith) i;
        right = start-byte t g sized 1 (omega arith) i;
        partners = partners i;
        history = history-byte t g sized i;
      }

  task_in_lem : task_in (of t g) ≡ t
  unfolding task_in
  task_in_lem =
      let stated : eqb (get_or (of t g) stated_at 0) 1 ≡ t.history_stated
      = rw (stated_byte t g sized) (flag-read t.history_stated) in
      λ i.
      record { left = model_in_lem Left i; right = model_in_lem Right i; start = start_in_lem i; history_stated = stated i }

  game_in_lem : game_in (of t g) ≡ g
  unfolding game_in
  game_in_lem = rw (game-byte t g sized) (number_of g)
    where
      number_of : (g : Game) → game_of (game_number g) ≡ g
      number_of BothAttack = refl
      number_of LeftAttacks = refl

  index_in : Indexable t → Index (of t g)
  unfolding set_of edge_bytes
  index_in h =
      record {
        indexable = rw task_in_lem h;
        to_sets = λ s k b. rw (model_in_lem s) (edge-at s k 5 b (omega arith));
        dropped = λ s k b. rw (model_in_lem s) (edge-at s k 6 b (omega arith));
        firsts = λ s c b. rw (model_in_lem s) (first-at s c b);
      }

pub index_of : {t : Task} {g : Game} {b : List ℕ} → Indexes t g b → Indexed t g b
index_of {t} {g} {b} h =
    let sized : SizedTask t = record { sides = h.sized; partners = h.partners } in
    rw h.written
    (record { index = index_in t g sized h.indexable; task = task_in_lem t g sized; game = game_in_lem t g sized })
