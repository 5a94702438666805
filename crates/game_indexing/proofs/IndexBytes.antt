-- What stands in the bytes of an index. Assumes nothing.
use Prim.Native.Nat.{ℕ, suc, ◌+◌, ◌-◌, ◌*◌, ◌≤◌, ◌<◌}
use mathlib.Core.Path.{◌≡◌, refl, ◌∙◌}
use mathlib.Core.List.{List, [], ◌∷◌, ◌++◌}
use native.Mathlib.Omega.{arith}
use lib.ListN.{length, get_or, get_or-append}
use lib.Seq.{get_or-append-add}
use Rattle.fra.specs.Model.{no_state, no_edge, edge_bytes}
use Rattle.fra.specs.Position.{bytes}
use Rattle.fra.specs.Rules.{model_of, game_number}
use Rattle.fra.specs.declared.Model.{Model}
use Rattle.fra.specs.declared.Task.{Task}
use Rattle.fra.specs.declared.Side.{Side}
use Rattle.fra.specs.declared.Side.TheVariants.{Left, Right}
use Rattle.fra.specs.declared.Game.{Game}
use Rattle.game_index.specs.Layout.{states_at, state_places, state_width, edges_at, edge_places, edge_width, codes, firsts_at}
use Rattle.game_index.specs.Layout.{side_width, start_at, partners_at, history_at, stated_at, game_at}
use Rattle.game_index.specs.Reading.{side_byte}
use Rattle.game_index.specs.Ranges.{first_edge}
use Rattle.game_index.specs.Writing.{flag, state_bytes, edge_entry, count_bytes, side_bytes, of, Sized}
use Rattle.fra_laws.proofs.ByPlace.{places-at}
use Rattle.game_indexing.proofs.EqualStrings.{strings_at}
use Rattle.game_indexing.proofs.IndexParts.{states_part, edges_part, firsts_part, from_edges, from_states, states-length, edges-length}
use Rattle.game_indexing.proofs.IndexParts.{SizedTask, from_stated, from_start, from_right}
use Rattle.game_indexing.proofs.IndexParts.{left-length, right-length, start-length}

-- byte i behind n others
behind : (a l : List ℕ) (n i : ℕ) → length a ≡ n → get_or (a ++ l) (n + i) 0 ≡ get_or l i 0
behind a l n i e = rw (← e) (get_or-append-add a l i 0)

-- ── A side ──

module _ (m : Model) (sized : Sized m) where
  after_counts : (i : ℕ) → get_or (side_bytes m) (states_at + i) 0 ≡ get_or (from_states m) i 0
  unfolding side_bytes
  after_counts i = behind (count_bytes m) (from_states m) states_at i refl

  after-states : (i : ℕ) → get_or (side_bytes m) (edges_at + i) 0 ≡ get_or (from_edges m) i 0
  after-states i =
      let place : edges_at + i ≡ states_at + (32 + i) = omega arith in
      rw place (after_counts (32 + i) ∙ behind (states_part m) (from_edges m) 32 i (omega (arith, states-length m sized)))

  after-edges : (i : ℕ) → get_or (side_bytes m) (firsts_at + i) 0 ≡ get_or (firsts_part m) i 0
  after-edges i =
      let place : firsts_at + i ≡ edges_at + (512 + i) = omega arith in
      rw place (after-states (512 + i) ∙ behind (edges_part m) (firsts_part m) 512 i (omega (arith, edges-length m sized)))

  pub state-byte : (q i : ℕ) → q < state_places → i < state_width
      → get_or (side_bytes m) (states_at + (state_width * q + i)) 0 ≡ get_or (state_bytes (get_or m.states q no_state)) i 0
  state-byte q i h b =
      after_counts (state_width * q + i)
      ∙ strings_at state_bytes state_width (λ s. refl) m.states (from_edges m) q i no_state (omega (arith, sized.states)) b

  pub edge-byte : (k i : ℕ) → k < edge_places → i < edge_width
      → get_or (side_bytes m) (edges_at + (edge_width * k + i)) 0 ≡ get_or (edge_entry m (get_or m.edges k no_edge)) i 0
  unfolding edge_bytes
  edge-byte k i h b =
      after-states (edge_width * k + i)
      ∙ strings_at (edge_entry m) edge_width (λ e. refl) m.edges (firsts_part m) k i no_edge (omega (arith, sized.edges)) b

  pub first_byte : (c : ℕ) → c ≤ codes → get_or (side_bytes m) (firsts_at + c) 0 ≡ first_edge m c
  first_byte c h = after-edges c ∙ places-at (first_edge m) (suc codes) c 0 (omega arith)

-- ── The whole ──

module _ (t : Task) (g : Game) (sized : SizedTask t) where
  after-left : (i : ℕ) → get_or (of t g) (side_width + i) 0 ≡ get_or (from_right t g) i 0
  unfolding of
  after-left i = behind (side_bytes t.left) (from_right t g) side_width i (left-length t g sized)

  after-right : (i : ℕ) → get_or (of t g) (start_at + i) 0 ≡ get_or (from_start t g) i 0
  after-right i =
      let place : start_at + i ≡ side_width + (side_width + i) = omega arith in
      rw place
      (after-left (side_width + i) ∙ behind (side_bytes t.right) (from_start t g) side_width i (right-length t g sized))

  pub side-byte : (s : Side) (i : ℕ) → i < side_width → side_byte (of t g) s i ≡ get_or (side_bytes (model_of t s)) i 0
  unfolding of
  side-byte Left i h = get_or-append (side_bytes t.left) (from_right t g) 0 i (omega (arith, left-length t g sized))
  side-byte Right i h =
      after-left i ∙ get_or-append (side_bytes t.right) (from_start t g) 0 i (omega (arith, right-length t g sized))

  pub start-byte : (i : ℕ) → start_at + i < stated_at → get_or (of t g) (start_at + i) 0 ≡ get_or (bytes t.start) i 0
  start-byte i h =
      after-right i ∙ get_or-append (bytes t.start) (from_stated t g) 0 i (omega (arith, start-length t g sized))

  pub partner-byte : (j : ℕ) → partners_at + j < history_at → get_or (of t g) (partners_at + j) 0 ≡ get_or t.start.partners j 0
  unfolding bytes
  partner-byte j h =
      let place : partners_at + j ≡ start_at + suc (suc j) = omega arith in
      rw place
      (start-byte (suc (suc j)) (omega arith)
      ∙ get_or-append t.start.partners (t.start.history ∷ []) 0 j (omega (arith, sized.partners)))

  pub history-byte : get_or (of t g) history_at 0 ≡ t.start.history
  unfolding bytes
  history-byte =
      start-byte (history_at - start_at) (omega arith)
      ∙ behind t.start.partners (t.start.history ∷ []) (history_at - partners_at) 0 sized.partners

  after-start : (i : ℕ) → get_or (of t g) (stated_at + i) 0 ≡ get_or (from_stated t g) i 0
  after-start i =
      let width = stated_at - start_at in
      let place : stated_at + i ≡ start_at + (width + i) = omega arith in
      rw place
      (after-right (width + i)
      ∙ behind (bytes t.start) (from_stated t g) width i (omega (arith, start-length t g sized)))

  pub stated_byte : get_or (of t g) stated_at 0 ≡ flag t.history_stated
  stated_byte = after-start 0

  pub game-byte : get_or (of t g) game_at 0 ≡ game_number g
  game-byte = after-start 1
