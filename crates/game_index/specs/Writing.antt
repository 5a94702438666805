-- The bytes of an index, and what they give to those who read them.
use Rattle.std.specs.Prelude.{ℕ, suc, ◌<◌, ◌≤◌, ◌+◌, ◌≡◌, Bool, not, cond, ◌&&◌, length}
use mathlib.Core.List.{List, [], ◌∷◌, ◌++◌, map, flat_map}
use lib.Seq.{sets}
use Rattle.fra.specs.Lists.{any, count}
use Rattle.fra.specs.Registers.{has, with}
use Rattle.fra.specs.Model.{set_of, edge_of, edge_bytes, register_of}
use Rattle.fra.specs.Rules.{model_of, game_number}
use Rattle.fra.specs.Position.{bytes}
use Rattle.fra.specs.Valid.{ValidModel, Valid}
use Rattle.fra.specs.declared.State.{State}
use Rattle.fra.specs.declared.Edge.{Edge}
use Rattle.fra.specs.declared.Model.{Model}
use Rattle.fra.specs.declared.Task.{Task}
use Rattle.fra.specs.declared.Side.{Side}
use Rattle.fra.specs.declared.Game.{Game}
use Rattle.game_index.specs.Layout.{state_places, edge_places, tag_places, codes, firsts_at, to_set_field, drops_field}
use Rattle.game_index.specs.Reading.{side_byte, edge_byte, model_in, task_in}
use Rattle.game_index.specs.Ranges.{first_edge}

-- ── Bytes ──

abbrev pub flag : Bool → ℕ
flag b = cond b 1 0

abbrev pub state_bytes : State → List ℕ
state_bytes q = q.set ∷ q.mark ∷ []

-- a register that is held before the round, or taken in it, is not held after it
unfoldable pub drops : Model → Edge → Bool
drops m e =
    any (λ i. with (set_of m e.from) (register_of e.kind) i && not (has (set_of m e.to) i)) (count 1 m.registers)

-- an edge's eight bytes, with the register set of its to state and whether it drops a register
abbrev pub entry_of : Edge → ℕ → Bool → List ℕ
entry_of e set b = edge_bytes e ++ (set ∷ flag b ∷ 0 ∷ [])

abbrev pub edge_entry : Model → Edge → List ℕ
edge_entry m e = entry_of e (set_of m e.to) (drops m e)

abbrev pub count_bytes : Model → List ℕ
count_bytes m = m.registers ∷ m.start ∷ m.state_count ∷ m.edge_count ∷ []

unfoldable pub side_bytes : Model → List ℕ
side_bytes m =
    count_bytes m
    ++ (flat_map state_bytes m.states ++ (flat_map (edge_entry m) m.edges ++ map (first_edge m) (count 0 (suc codes))))

-- the index of a task and a game
unfoldable pub of : Task → Game → List ℕ
of t g = side_bytes t.left ++ (side_bytes t.right ++ (bytes t.start ++ (flag t.history_stated ∷ game_number g ∷ [])))

-- ── Tasks that have an index ──

-- the tags of a model are 01's: "a tag 0 to 31"
abbrev pub Tagged : Model → Type 0
Tagged m = (k : ℕ) → k < m.edge_count → (edge_of m k).tag < tag_places

-- a valid model with such tags
pub record IndexableModel (m : Model) : Type 0 where
  pub valid : ValidModel 6 m
  pub tags : Tagged m

-- a valid task of such models
pub record Indexable (t : Task) : Type 0 where
  pub valid : Valid 6 t
  pub tags : (s : Side) → Tagged (model_of t s)

-- a model's arrays have their declared lengths
pub record Sized (m : Model) : Type 0 where
  pub states : length m.states ≡ state_places
  pub edges : length m.edges ≡ edge_places

-- a side's bytes are written from a place on
pub record SidePut (m : Model) (at : ℕ) (old new : List ℕ) : Type 0 where
  pub sized : Sized m
  pub written : new ≡ sets old at (side_bytes m)

-- the bytes are the index of the task and the game
pub record Indexes (t : Task) (g : Game) (b : List ℕ) : Type 0 where
  pub indexable : Indexable t
  pub sized : (s : Side) → Sized (model_of t s)
  pub partners : length t.start.partners ≡ 6
  pub written : b ≡ of t g

-- ── What a reader of an index relies on ──

-- the task in it is one that has an index, and what follows from the task is written beside it
pub record Index (b : List ℕ) : Type 0 where
  pub indexable : Indexable (task_in b)
  pub to_sets : (s : Side) (k : ℕ) → k < edge_places → edge_byte b s k to_set_field ≡ set_of (model_in b s) (edge_of (model_in b s) k).to
  pub dropped : (s : Side) (k : ℕ) → k < edge_places → edge_byte b s k drops_field ≡ flag (drops (model_in b s) (edge_of (model_in b s) k))
  pub firsts : (s : Side) (c : ℕ) → c ≤ codes → side_byte b s (firsts_at + c) ≡ first_edge (model_in b s) c
