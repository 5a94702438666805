-- What holds of every task that the reader does not refuse, for r registers (01, "A reader model").
use Rattle.std.specs.Prelude.{ℕ, suc, ◌≤◌, ◌<◌, ◌≡◌, Bool, true, false, length}
use Rattle.fra.specs.Registers.{has, with}
use Rattle.fra.specs.Lists.{below}
use Rattle.fra.specs.Model.{set_of, mark_of, edge_of, edge_bytes, register_of}
use Rattle.fra.specs.Position.{most_seen, legal}
use Rattle.fra.specs.declared.EdgeKind.{EdgeKind}
use Rattle.fra.specs.declared.EdgeKind.TheVariants.{Known, LocallyFresh, GloballyFresh}
use Rattle.fra.specs.declared.Edge.{Edge}
use Rattle.fra.specs.declared.Model.{Model}
use Rattle.fra.specs.declared.Task.{Task}

-- the registers of one set are all in the other
abbrev pub Inside : ℕ → (ℕ → Bool) → Type 0
Inside set other = (i : ℕ) → has set i ≡ true → other i ≡ true

-- "Known takes exactly the number in register i; i is in the from set, and the to set lies inside the from set." Of a fresh
-- edge: "The to set lies inside the from set with i added".
abbrev pub RegisterRule : ℕ → ℕ → EdgeKind → Type 0
RegisterRule from to (Known i) = (has from i ≡ true) × Inside to (has from)
RegisterRule from to (LocallyFresh i) = Inside to (with from i)
RegisterRule from to (GloballyFresh i) = Inside to (with from i)

pub record ValidState (m : Model) (q : ℕ) : Type 0 where
  pub existing : (i : ℕ) → has (set_of m q) i ≡ true → i ≤ m.registers
  pub mark : mark_of m q ≤ 1

pub record ValidEdge (m : Model) (e : Edge) : Type 0 where
  pub from : e.from < m.state_count
  pub to : e.to < m.state_count
  pub least : 1 ≤ register_of e.kind
  pub greatest : register_of e.kind ≤ m.registers
  pub rule : RegisterRule (set_of m e.from) (set_of m e.to) e.kind

pub record ValidModel (r : ℕ) (m : Model) : Type 0 where
  pub registers : m.registers ≤ r
  pub states_placed : m.state_count ≤ length m.states
  pub edges_placed : m.edge_count ≤ length m.edges
  pub start : m.start < m.state_count
  pub states : (q : ℕ) → q < m.state_count → ValidState m q
  pub edges : (k : ℕ) → k < m.edge_count → ValidEdge m (edge_of m k)
  pub rising : (k : ℕ) → suc k < m.edge_count → below (edge_bytes (edge_of m k)) (edge_bytes (edge_of m (suc k))) ≡ true

pub record Valid (r : ℕ) (t : Task) : Type 0 where
  pub left : ValidModel r t.left
  pub right : ValidModel r t.right
  pub start_left : t.start.left ≡ t.left.start
  pub start_right : t.start.right ≡ t.right.start
  pub start-legal : legal r t t.start ≡ true
  -- 02, ticket 2: "without the record it is 13"
  pub unstated : t.history_stated ≡ false → t.start.history ≡ most_seen r
