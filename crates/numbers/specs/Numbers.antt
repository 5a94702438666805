-- 01, "Rounds with actual numbers": the game that the readers play with object numbers. It shares with the symbolic game the
-- task (the models, their start states and pairs) and the rules (who attacks, which end marks lose at once), and nothing else.
use Rattle.std.specs.Prelude.{ℕ, zero, suc, ◌+◌, ◌*◌, ◌≤◌, ◌<◌, ◌≡◌, ◌⊎◌, ◌↔◌, true, cond, List, ◌∷◌, length, get_or, eqb}
use Rattle.fra.specs.Lists.{◌∈◌, Unique, any}
use Rattle.fra.specs.Registers.{has}
use Rattle.fra.specs.Model.{set_of, mark_of, edge_of}
use Rattle.fra.specs.Rules.{Rules, other, left_of, right_of, model_of}
use Rattle.fra.specs.declared.EdgeKind.{EdgeKind}
use Rattle.fra.specs.declared.EdgeKind.TheVariants.{Known, LocallyFresh, GloballyFresh}
use Rattle.fra.specs.declared.Edge.{Edge}
use Rattle.fra.specs.declared.Model.{Model}
use Rattle.fra.specs.declared.Task.{Task}
use Rattle.fra.specs.declared.Side.{Side}
use Rattle.fra.specs.declared.Side.TheVariants.{Left, Right}

-- A reader at work: its state, and the number in each register. Only the registers of the state's set count, so that
-- "Registers outside the to set are dropped" as soon as the state changes.
pub record Reader : Type 0 where
  pub state : ℕ
  pub number : ℕ → ℕ

-- register i holds the number n
pub record Holds (m : Model) (x : Reader) (i n : ℕ) : Type 0 where
  pub filled : has (set_of m x.state) i ≡ true
  pub holds : x.number i ≡ n

-- "The history is the set of all numbers seen so far by either reader": a list in which no number stands twice.
pub record Setting : Type 0 where
  pub left : Reader
  pub right : Reader
  pub history : List ℕ

abbrev pub reader_of : Setting → Side → Reader
reader_of s Left = s.left
reader_of s Right = s.right

-- the reader's state exists, its numbers are "distinct inside each reader", and the history "contains these numbers"
pub record Placed (m : Model) (x : Reader) (history : List ℕ) : Type 0 where
  pub exists : x.state < m.state_count
  pub distinct : (i j n : ℕ) → Holds m x i n → Holds m x j n → i ≡ j
  pub seen : (i n : ℕ) → Holds m x i n → n ∈ history

-- "A setting is a left and a right state, the number in each register of their sets, distinct inside each reader, and a
-- history, a finite set that contains these numbers."
pub record IsSetting (t : Task) (s : Setting) : Type 0 where
  pub left : Placed t.left s.left s.history
  pub right : Placed t.right s.right s.history
  pub history : Unique s.history

-- "i, j is a pair of the task"
abbrev pub IsPair : Task → ℕ → ℕ → Type 0
IsPair t zero j = ⊥
IsPair t (suc k) j = get_or t.start.partners k 0 ≡ j

-- "An opening is a setting in the two start states. There, left register i and right register j hold the same number exactly
-- if i, j is a pair of the task". 02, ticket 2: "the history of an opening now has exactly the stated size, or at least 13 numbers
-- where 13 is stated": 2r + 1 for r registers.
pub record Opening (r : ℕ) (t : Task) (s : Setting) : Type 0 where
  pub setting : IsSetting t s
  pub start_left : s.left.state ≡ t.left.start
  pub start_right : s.right.state ≡ t.right.start
  pub shared : (i j n m : ℕ) → Holds t.left s.left i n → Holds t.right s.right j m → (n ≡ m) ↔ IsPair t i j
  pub exact : t.start.history < 2 * r + 1 → length s.history ≡ t.start.history
  pub at_least : t.start.history ≡ 2 * r + 1 → 2 * r + 1 ≤ length s.history

-- ── Rounds ──

-- "Known takes exactly the number in register i"; "Locally fresh takes any number that this reader does not hold now.
-- Globally fresh takes a number that is not in the history."
unfoldable pub Takes : Model → Reader → List ℕ → EdgeKind → ℕ → Type 0
Takes m x history (Known i) n = Holds m x i n
Takes m x history (LocallyFresh i) n = (j : ℕ) → Holds m x j n → ⊥
Takes m x history (GloballyFresh i) n = n ∈ history → ⊥

-- edge number k of the model can be taken with the number n
pub record Open (m : Model) (x : Reader) (history : List ℕ) (k n : ℕ) : Type 0 where
  pub exists : k < m.edge_count
  pub starts : (edge_of m k).from ≡ x.state
  pub takes : Takes m x history (edge_of m k).kind n

-- "the chooser names a side, an edge from that side's state and a number that this edge takes"
pub record Choice (g : Rules) (t : Task) (s : Setting) : Type 0 where
  pub side : Side
  pub allowed : g.attacks side ≡ true
  pub edge : ℕ
  pub number : ℕ
  pub open_edge : Open (model_of t side) (reader_of s side) s.history edge number

-- "a reply is an edge from the other side's state that has the attack's tag and takes the same number"
pub record Reply (g : Rules) (t : Task) (s : Setting) (c : Choice g t s) (k : ℕ) : Type 0 where
  pub open_edge : Open (model_of t (other c.side)) (reader_of s (other c.side)) s.history k c.number
  pub tag : (edge_of (model_of t (other c.side)) k).tag ≡ (edge_of (model_of t c.side) c.edge).tag

-- "A fresh edge stores the number in its register i, in place of what was there. .. all others keep their numbers."
unfoldable pub stored : EdgeKind → ℕ → (ℕ → ℕ) → ℕ → ℕ
stored (Known i) n f j = f j
stored (LocallyFresh i) n f j = cond (eqb i j) n (f j)
stored (GloballyFresh i) n f j = cond (eqb i j) n (f j)

-- a reader that has taken the number n by an edge
unfoldable pub taken : Edge → ℕ → Reader → Reader
taken e n x = record { state = e.to; number = stored e.kind n x.number }

-- "The number joins the history."
unfoldable pub joined : ℕ → List ℕ → List ℕ
joined n history = cond (any (eqb n) history) history (n ∷ history)

-- the setting after a left and a right edge have taken the number n
unfoldable pub played : Setting → Edge → Edge → ℕ → Setting
played s l r n = record { left = taken l n s.left; right = taken r n s.right; history = joined n s.history }

-- "Then both readers go to their edges' to states": the setting after the choice and the reply k
unfoldable pub after_reply : (g : Rules) (t : Task) (s : Setting) → Choice g t s → ℕ → Setting
after_reply g t s c k = played s (left_of c.side own others) (right_of c.side own others) c.number
  where
    own : Edge
    own = edge_of (model_of t c.side) c.edge

    others : Edge
    others = edge_of (model_of t (other c.side)) k

-- ── Forced ──

-- "A setting is forced within 0 rounds if its end marks differ. It is forced within n+1 rounds if forced within n, or if some
-- such choice has every reply leading to a setting forced within n; a choice without any reply is one of these."
unfoldable pub Forced : Rules → Task → ℕ → Setting → Type 0
Forced g t zero s = g.lost (mark_of t.left s.left.state) (mark_of t.right s.right.state) ≡ true
Forced g t (suc n) s =
    Forced g t n s ⊎ (c : Choice g t s) × ((k : ℕ) → Reply g t s c k → Forced g t n (after_reply g t s c k))

-- "A count n is enough for an opening that is forced within n rounds."
abbrev pub Enough : Rules → Task → ℕ → Setting → Type 0
Enough g t n s = Forced g t n s

-- n is the least count that is enough
pub record LeastEnough (g : Rules) (t : Task) (n : ℕ) (s : Setting) : Type 0 where
  pub enough : Enough g t n s
  pub least : (m : ℕ) → Enough g t m s → n ≤ m
