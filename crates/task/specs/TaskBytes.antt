-- 01, "The task file", from a task to its bytes: the records that a task is written as, and the tasks that a file can hold.
-- Nothing here goes by way of the reader.
use Rattle.std.specs.Prelude.{ℕ, zero, suc, ◌≤◌, ◌<◌, ◌≡◌, cond, length, get_or}
use mathlib.Core.List.{List, [], ◌∷◌, ◌++◌, map, flat_map}
use Rattle.fra.specs.Lists.{count}
use Rattle.fra.specs.Model.{no_state, no_edge, set_of, mark_of, edge_of, kind_number, register_of}
use Rattle.fra.specs.Valid.{Valid}
use Rattle.fra.specs.declared.Edge.{Edge}
use Rattle.fra.specs.declared.Model.{Model}
use Rattle.fra.specs.declared.Task.{Task}
use Rattle.task.specs.Records.{Record, header, state, edge, pair, history, end, encode}
use Rattle.task.specs.TaskFile.{max_registers, max_states, tag_count, max_edges}

-- ── The records of a task ──

-- "2, state: its number, register set (bit 0 is register 1), end mark."
unfoldable pub state_record : Model → ℕ → Record
state_record m q = state q (set_of m q) (mark_of m q)

-- "3, edge: from, tag, kind, register, to." Its number is its place, and is not written.
unfoldable pub edge_record : ℕ → Edge → Record
edge_record k e = edge e.from e.tag (kind_number e.kind) (register_of e.kind) e.to

-- "header, its states in rising number, its edges": the record of an edge is given by its number and the edge
unfoldable pub model_records : (ℕ → Edge → Record) → Model → List Record
model_records recordOf m =
    header m.registers m.state_count m.start
    ∷ map (state_record m) (count 0 m.state_count)
    ++ map (λ k. recordOf k (edge_of m k)) (count 0 m.edge_count)

-- "4, pair: left register, right register." "Pairs rise strictly by left register": one for each left register, from i on,
-- that has a partner
unfoldable pub pair_records : ℕ → List ℕ → List Record
pair_records i [] = []
pair_records i (zero ∷ partners) = pair_records (suc i) partners
pair_records i (suc j ∷ partners) = pair i (suc j) ∷ pair_records (suc i) partners

-- 02, ticket 2: "A record of kind 5, one byte, may stand after the pairs and gives the history's size": the task says whether it
-- stands there
unfoldable pub history_records : Task → List Record
history_records t = cond t.history_stated (history t.start.history ∷ []) []

-- "In order: the left model (..), the right model likewise, pairs, end." What a file has between its pairs and its end is given.
unfoldable pub task_records : (ℕ → Edge → Record) → List Record → Task → List Record
task_records recordOf further t =
    model_records recordOf t.left
    ++ model_records recordOf t.right
    ++ pair_records 1 t.start.partners
    ++ further
    ++ end ∷ []

-- the bytes of a task
unfoldable pub encode_task : Task → List ℕ
encode_task t = flat_map encode (task_records edge_record (history_records t) t)

-- ── The tasks that a file can hold ──

-- what is asked of a model beside being valid. That its counts do not exceed its places is part of `Valid`.
pub record WritableModel (m : Model) : Type 0 where
  -- "a tag 0 to 31"
  pub tags : (k : ℕ) → k < m.edge_count → (edge_of m k).tag < tag_count
  -- "1 to 16 states": there are places for 16
  pub state_array : length m.states ≡ max_states
  -- "There are at most 64 edges": there are places for 64
  pub edge_array : length m.edges ≡ max_edges
  -- a file says nothing of the places past the counts: they are zeros
  pub states_past : (q : ℕ) → m.state_count ≤ q → get_or m.states q no_state ≡ no_state
  pub edges_past : (k : ℕ) → m.edge_count ≤ k → edge_of m k ≡ no_edge

pub record Writable (t : Task) : Type 0 where
  -- "0 to 6 registers"; what 01 asks of states, edges, their order and the start
  pub valid : Valid max_registers t
  pub left : WritableModel t.left
  pub right : WritableModel t.right
