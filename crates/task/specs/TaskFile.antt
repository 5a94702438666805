-- 01, "The task file": what a reader gives on any string of bytes.
use Rattle.std.specs.Prelude.{ℕ, zero, suc, ◌+◌, ◌-◌, ◌^◌, ◌≡◌, Bool, true, false, not, cond, ◌&&◌, ◌||◌, List, [], ◌∷◌, length, get_or, take, drop, set, replicate, ltb, leb, eqb, Result, Ok, Err}
use Rattle.std.specs.Result.{result_unwrap_or}
use Rattle.fra.specs.Lists.{any, below}
use Rattle.fra.specs.Registers.{has, inside, with}
use Rattle.fra.specs.Model.{no_state, no_edge, set_of, edge_of, kind_of, edge_bytes}
use Rattle.fra.specs.Position.{unmatched, most_seen, held}
use Rattle.fra.specs.Rules.{model_of}
use Rattle.fra.specs.declared.EdgeKind.{EdgeKind}
use Rattle.fra.specs.declared.EdgeKind.TheVariants.{Known, LocallyFresh, GloballyFresh}
use Rattle.fra.specs.declared.Edge.{Edge}
use Rattle.fra.specs.declared.Model.{Model}
use Rattle.fra.specs.declared.Task.{Task}
use Rattle.fra.specs.declared.Side.{Side}
use Rattle.fra.specs.declared.Side.TheVariants.{Left, Right}
use Rattle.task.specs.declared.Stage.{Stage}
use Rattle.task.specs.declared.Stage.TheVariants.{Start, States, Edges, Pairs, Sized, Ended}
use Rattle.task.specs.declared.Progress.{Progress}
use Rattle.task.specs.declared.Refusal.{Refusal}
use Rattle.task.specs.declared.Refusal.TheVariants.{UnknownKind, CutShort, Misplaced, BadHeader, BadState, BadEdge, BrokenRule, EdgesNotRising, TooManyEdges, BadPair, BadHistory}
use Rattle.task.specs.declared.Kind.{Kind}
use Rattle.task.specs.declared.Kind.TheVariants.{Header as IsHeader, State as IsState, Edge as IsEdge, Pair as IsPair, History as IsHistory, End as IsEnd}
use Rattle.task.specs.Refusals.{number_of}

-- ── Limits: "0 to 6 registers", "1 to 16 states", "a tag 0 to 31", "at most 64 edges" ──

abbrev pub max_registers : ℕ
max_registers = 6

abbrev pub max_states : ℕ
max_states = 16

abbrev pub tag_count : ℕ
tag_count = 32

abbrev pub max_edges : ℕ
max_edges = 64

-- ── What is read so far ──

unfoldable pub no_model : Model
no_model =
    record {
      registers = 0;
      start = 0;
      state_count = 0;
      edge_count = 0;
      states = replicate max_states no_state;
      edges = replicate max_edges no_edge;
    }

unfoldable pub no_task : Task
no_task = record { left = no_model; right = no_model; start = unmatched max_registers 0 0; history_stated = false }

unfoldable pub at_start : Progress
at_start = record { stage = Start; task = no_task }

-- what is done with the first result goes on from its value; a refusal stays
infixl 10 ◌>>=◌
abbrev pub ◌>>=◌ : {A B : Type 0} → Result A Refusal → (A → Result B Refusal) → Result B Refusal
Ok x >>= f = f x
Err e >>= f = Err e

-- the task with another model on a side
abbrev pub with_model : Task → Side → Model → Task
with_model t Left m =
    record { left = m; right = t.right; start = t.start; history_stated = t.history_stated }
with_model t Right m =
    record { left = t.left; right = m; start = t.start; history_stated = t.history_stated }

-- ── "1, header: registers, states, start state." ──

-- "A header has more than 6 registers, 0 or more than 16 states, or a start state that does not exist."
unfoldable pub header_refusal : ℕ → ℕ → ℕ → Result (Unit {0}) Refusal
header_refusal registers states start =
    cond (ltb max_registers registers || eqb states 0 || ltb max_states states || leb states start) (Err BadHeader) (Ok tt)

-- a model with nothing but its header
unfoldable pub headed : ℕ → ℕ → ℕ → Model
headed registers states start =
    record {
      registers = registers;
      start = start;
      state_count = states;
      edge_count = 0;
      states = replicate max_states no_state;
      edges = replicate max_edges no_edge;
    }

-- the header of a side's model; the right one's fixes the start position, still without pairs
unfoldable pub with_header : Task → Side → Model → Task
with_header t Left m = with_model t Left m
with_header t Right m =
    record {
      left = t.left;
      right = m;
      start = unmatched max_registers t.left.start m.start;
      history_stated = t.history_stated;
    }

unfoldable pub header_at : Side → Progress → List ℕ → Result Progress Refusal
header_at s p body = do
  _ ← header_refusal (get_or body 0 0) (get_or body 1 0) (get_or body 2 0)
  Ok
      (record {
        stage = States s 0;
        task = with_header p.task s (headed (get_or body 0 0) (get_or body 1 0) (get_or body 2 0));
      })

-- ── "2, state: its number, register set (bit 0 is register 1), end mark." ──

-- "A state has not the next number, has a set bit of a register that does not exist, or an end mark above 1."
unfoldable pub state_refusal : Model → ℕ → ℕ → ℕ → ℕ → Result (Unit {0}) Refusal
state_refusal m due number registers mark =
    cond (not (eqb number due) || leb (2 ^ m.registers) registers || ltb 1 mark) (Err BadState) (Ok tt)

unfoldable pub with_state : Model → ℕ → ℕ → ℕ → Model
with_state m q registers mark =
    record {
      registers = m.registers;
      start = m.start;
      state_count = m.state_count;
      edge_count = m.edge_count;
      states = set m.states q (record { set = registers; mark = mark });
      edges = m.edges;
    }

-- after state q the next one is due, or the edges
unfoldable pub after_state : Model → Side → ℕ → Stage
after_state m s q = cond (eqb (q + 1) m.state_count) (Edges s) (States s (q + 1))

unfoldable pub state_at : Side → ℕ → Progress → List ℕ → Result Progress Refusal
state_at s due p body = do
  _ ← state_refusal (model_of p.task s) due (get_or body 0 0) (get_or body 1 0) (get_or body 2 0)
  Ok
      (record {
        stage = after_state (model_of p.task s) s due;
        task = with_model p.task s (with_state (model_of p.task s) due (get_or body 1 0) (get_or body 2 0));
      })

-- ── "3, edge: from, tag, kind, register, to." ──

unfoldable pub edge_of_body : List ℕ → Edge
edge_of_body body =
    record {
      from = get_or body 0 0;
      tag = get_or body 1 0;
      kind = kind_of (get_or body 2 0) (get_or body 3 0);
      to = get_or body 4 0;
    }

-- "An edge has a state, tag, kind or register that does not exist."
unfoldable pub edge_exists : Model → List ℕ → Bool
edge_exists m body =
    ltb (get_or body 0 0) m.state_count
    && ltb (get_or body 1 0) tag_count
    && leb (get_or body 2 0) 2
    && leb 1 (get_or body 3 0)
    && leb (get_or body 3 0) m.registers
    && ltb (get_or body 4 0) m.state_count

-- "Known ..; i is in the from set, and the to set lies inside the from set." Fresh: "The to set lies inside the from set with
-- i added".
unfoldable pub keeps_rule : ℕ → ℕ → ℕ → EdgeKind → Bool
keeps_rule r from to (Known i) = has from i && inside r to (has from)
keeps_rule r from to (LocallyFresh i) = inside r to (with from i)
keeps_rule r from to (GloballyFresh i) = inside r to (with from i)

-- "Edges of a model rise strictly as five-byte strings"
unfoldable pub rises : Model → List ℕ → Bool
rises m body = eqb m.edge_count 0 || below (edge_bytes (edge_of m (m.edge_count - 1))) body

unfoldable pub edge_refusal : Model → List ℕ → Result (Unit {0}) Refusal
edge_refusal m body =
    cond (not (edge_exists m body)) (Err BadEdge)
    (cond
    (not
    (keeps_rule m.registers (set_of m (get_or body 0 0)) (set_of m (get_or body 4 0)) (kind_of (get_or body 2 0) (get_or body 3 0))))
    (Err BrokenRule)
    (cond (not (rises m body)) (Err EdgesNotRising) (cond (leb max_edges m.edge_count) (Err TooManyEdges) (Ok tt))))

unfoldable pub with_edge : Model → Edge → Model
with_edge m e =
    record {
      registers = m.registers;
      start = m.start;
      state_count = m.state_count;
      edge_count = m.edge_count + 1;
      states = m.states;
      edges = set m.edges m.edge_count e;
    }

unfoldable pub edge_at : Side → Progress → List ℕ → Result Progress Refusal
edge_at s p body = do
  _ ← edge_refusal (model_of p.task s) body
  Ok (record { stage = Edges s; task = with_model p.task s (with_edge (model_of p.task s) (edge_of_body body)) })

-- ── "4, pair: left register, right register." ──

-- the left register's place in the matching, and those after it, hold no pair yet
unfoldable pub rising : List ℕ → ℕ → Bool
rising partners l = not (any (λ x. ltb 0 x) (drop (l - 1) partners))

-- "A pair has a register outside a start state's set, does not rise, or reuses a right register."
unfoldable pub pair_refusal : Task → ℕ → ℕ → Result (Unit {0}) Refusal
pair_refusal t l r =
    cond
    (not (has (set_of t.left t.left.start) l)
    || not (has (set_of t.right t.right.start) r)
    || not (rising t.start.partners l)
    || any (eqb r) t.start.partners)
    (Err BadPair)
    (Ok tt)

unfoldable pub with_pair : Task → ℕ → ℕ → Task
with_pair t l r =
    record {
      left = t.left;
      right = t.right;
      start =
          record {
            left = t.start.left;
            right = t.start.right;
            partners = set t.start.partners (l - 1) r;
            history = t.start.history;
          };
      history_stated = t.history_stated;
    }

unfoldable pub pair_at : Progress → List ℕ → Result Progress Refusal
pair_at p body = do
  _ ← pair_refusal p.task (get_or body 0 0) (get_or body 1 0)
  Ok (record { stage = Pairs; task = with_pair p.task (get_or body 0 0) (get_or body 1 0) })

-- ── 02, ticket 2: "A record of kind 5, one byte, may stand after the pairs and gives the history's size" ──

-- "15: the size is above 13 or less than the numbers held together at the start"
unfoldable pub history_refusal : Task → ℕ → Result (Unit {0}) Refusal
history_refusal t size = cond (ltb (most_seen max_registers) size || ltb size (held t t.start)) (Err BadHistory) (Ok tt)

unfoldable pub with_history : Task → ℕ → Task
with_history t size =
    record {
      left = t.left;
      right = t.right;
      start =
          record {
            left = t.start.left;
            right = t.start.right;
            partners = t.start.partners;
            history = size;
          };
      history_stated = true;
    }

unfoldable pub history_at : Progress → List ℕ → Result Progress Refusal
history_at p body = do
  _ ← history_refusal p.task (get_or body 0 0)
  Ok (record { stage = Sized; task = with_history p.task (get_or body 0 0) })

-- ── "15, end: no body." ──

unfoldable pub end_at : Progress → Result Progress Refusal
end_at p = Ok (record { stage = Ended; task = p.task })

-- ── Places: "In order: the left model (header, its states in rising number, its edges), the right model likewise, pairs,
-- end." The history's size stands between pairs and end. A record out of place: 3. ──

unfoldable pub header : Stage → Progress → List ℕ → Result Progress Refusal
header Start p body = header_at Left p body
header (States s q) p body = Err Misplaced
header (Edges Left) p body = header_at Right p body
header (Edges Right) p body = Err Misplaced
header Pairs p body = Err Misplaced
header Sized p body = Err Misplaced
header Ended p body = Err Misplaced

unfoldable pub state : Stage → Progress → List ℕ → Result Progress Refusal
state Start p body = Err Misplaced
state (States s q) p body = state_at s q p body
state (Edges s) p body = Err Misplaced
state Pairs p body = Err Misplaced
state Sized p body = Err Misplaced
state Ended p body = Err Misplaced

unfoldable pub edge : Stage → Progress → List ℕ → Result Progress Refusal
edge Start p body = Err Misplaced
edge (States s q) p body = Err Misplaced
edge (Edges s) p body = edge_at s p body
edge Pairs p body = Err Misplaced
edge Sized p body = Err Misplaced
edge Ended p body = Err Misplaced

unfoldable pub pair : Stage → Progress → List ℕ → Result Progress Refusal
pair Start p body = Err Misplaced
pair (States s q) p body = Err Misplaced
pair (Edges Left) p body = Err Misplaced
pair (Edges Right) p body = pair_at p body
pair Pairs p body = pair_at p body
pair Sized p body = Err Misplaced
pair Ended p body = Err Misplaced

unfoldable pub history : Stage → Progress → List ℕ → Result Progress Refusal
history Start p body = Err Misplaced
history (States s q) p body = Err Misplaced
history (Edges Left) p body = Err Misplaced
history (Edges Right) p body = history_at p body
history Pairs p body = history_at p body
history Sized p body = Err Misplaced
history Ended p body = Err Misplaced

unfoldable pub end : Stage → Progress → Result Progress Refusal
end Start p = Err Misplaced
end (States s q) p = Err Misplaced
end (Edges Left) p = Err Misplaced
end (Edges Right) p = end_at p
end Pairs p = end_at p
end Sized p = end_at p
end Ended p = Err Misplaced

-- ── The file: "Records are one byte of kind, then a body whose length the kind fixes." ──

-- 1: "The kind byte is not 1, 2, 3, 4 or 15." 02, ticket 2: "Kind 5 is no longer met by 1."
abbrev pub record_kind : ℕ → Result Kind Refusal
record_kind b =
    cond (eqb b 1) (Ok IsHeader)
    (cond (eqb b 2) (Ok IsState)
    (cond (eqb b 3) (Ok IsEdge)
    (cond (eqb b 4) (Ok IsPair) (cond (eqb b 5) (Ok IsHistory) (cond (eqb b 15) (Ok IsEnd) (Err UnknownKind))))))

abbrev pub body_length : Kind → ℕ
body_length IsHeader = 3
body_length IsState = 3
body_length IsEdge = 5
body_length IsPair = 2
body_length IsHistory = 1
body_length IsEnd = 0

-- the body of a record, at the start of what follows its kind byte. 2: "The file ends inside a body".
unfoldable pub body_of : Kind → List ℕ → Result (List ℕ) Refusal
body_of k l = cond (ltb (length l) (body_length k)) (Err CutShort) (Ok (take (body_length k) l))

unfoldable pub step : Kind → Progress → List ℕ → Result Progress Refusal
step IsHeader p body = header p.stage p body
step IsState p body = state p.stage p body
step IsEdge p body = edge p.stage p body
step IsPair p body = pair p.stage p body
step IsHistory p body = history p.stage p body
step IsEnd p body = end p.stage p

-- a file that ends here: "without an end record" it meets 2
unfoldable pub at_end : Stage → Task → Result Task Refusal
at_end Start t = Err CutShort
at_end (States s q) t = Err CutShort
at_end (Edges s) t = Err CutShort
at_end Pairs t = Err CutShort
at_end Sized t = Err CutShort
at_end Ended t = Ok t

-- the rest of a file, of fewer than n records. In one record the first in checking order counts: 1, then 2, then the record's own.
unfoldable pub read_rest : ℕ → Progress → List ℕ → Result Task Refusal
read_rest zero p l = Err CutShort
read_rest (suc n) p [] = at_end p.stage p.task
read_rest (suc n) p (b ∷ l) = do
  k ← record_kind b
  body ← body_of k l
  after ← step k p body
  read_rest n after (drop (body_length k) l)

-- "Records are checked in file order; in one record the lowest number counts. Bytes after an end record are checked as a
-- record."
unfoldable pub read_task : List ℕ → Result Task Refusal
read_task l = read_rest (suc (length l)) at_start l

-- the task that a file holds; where none is read, one that holds nothing
abbrev pub task_of : List ℕ → Task
task_of file = result_unwrap_or (read_task file) no_task

-- the number of a reader's answer: the refusal's, or 0 where the file is read
abbrev pub refusal_of : Result Task Refusal → ℕ
refusal_of (Ok t) = 0
refusal_of (Err e) = number_of e

-- a file of which no record is turned back, and that has an end
abbrev pub IsRead : List ℕ → Type 0
IsRead file = refusal_of (read_task file) ≡ 0
