-- What is read so far says what the records read so far say. Assumes nothing.
use Prim.Native.Nat.{ℕ, zero, suc, ◌-◌, ◌≤◌, ◌<◌}
use mathlib.Core.Path.{◌≡◌, refl, sym, ◌∙◌, ap}
use mathlib.Core.Logic.{◌⊎◌, inl, inr, ⊎_elim}
use mathlib.Core.Bool.{Bool, true, false, cond}
use mathlib.Core.List.Memᴰ
use mathlib.Core.List.{List, [], ◌∷◌}
use native.Mathlib.Omega.{arith}
use lib.ListN.{length, set, replicate}
use lib.Dec.{eqb, eqb-suc-zero, eqb-suc-suc}
use borrow.Author.Tests.{eqb-true, eq-eqb, ne_eqb}
use Rattle.fra.specs.Lists.{◌∈◌, below}
use Rattle.fra.specs.Model.{no_state, set_of, edge_of, edge_bytes}
use Rattle.fra.specs.Rules.{model_of}
use Rattle.fra.specs.Position.{right_partner}
use Rattle.fra.specs.declared.Edge.{Edge}
use Rattle.fra.specs.declared.Model.{Model}
use Rattle.fra.specs.declared.Task.{Task}
use Rattle.fra.specs.declared.Side.{Side}
use Rattle.fra.specs.declared.Side.TheVariants.{Left, Right}
use Rattle.task.specs.Records.{Record, header, state, edge, pair, history, end, headers, earlier, registers, states, start, states_read, edges_read, last_edge, set_in, Complete, NoPair, NoHistory, NoEnd}
use Rattle.task.specs.TaskFile.{max_states, headed, with_state, edge_of_body, rises, with_edge}
use Rattle.task.specs.declared.Stage.{Stage}
use Rattle.task.specs.declared.Stage.TheVariants.{Start, States, Edges, Pairs, Sized, Ended}
use Rattle.task.specs.declared.Progress.{Progress}
use Rattle.task_laws.proofs.Arrays.{get_d_replicate_default, get_d_set}
use Rattle.task_laws.proofs.Models.{set_of-with_state, edge_of-with_edge, edge_bytes-read, rises-first, rises-after}

-- ── Models ──

-- a model has this many registers, states and edges, this start state, these register sets and this last edge
pub record Contents (r n q e : ℕ) (sets : ℕ → ℕ) (last : List ℕ) (m : Model) : Type 0 where
  pub registers : m.registers ≡ r
  pub states : m.state_count ≡ n
  pub start : m.start ≡ q
  pub edges : m.edge_count ≡ e
  pub set_at : (k : ℕ) → set_of m k ≡ sets k
  pub order : (b : ℕ) (body : List ℕ) → rises m (b ∷ body) ≡ below last (b ∷ body)

-- a model has what the records since the latest header give it
abbrev pub Written : List Record → Model → Type 0
Written l m = Contents (registers l) (states l) (start l) (edges_read l) (set_in l) (last_edge l) m

pub written-headed : (l : List Record) (r n q : ℕ) → Written (header r n q ∷ l) (headed r n q)
unfolding headed registers states start edges_read last_edge set_in set_of below
written-headed l r n q =
    record {
      registers = refl;
      states = refl;
      start = refl;
      edges = refl;
      set_at = λ k. rw (get_d_replicate_default max_states k no_state);
      order = λ b body. rises-first (headed r n q) refl (b ∷ body);
    }

pub written-with_state : (l : List Record) {m : Model} (q n registers mark : ℕ) → q < length m.states → n ≡ q → Written l m
    → Written (state n registers mark ∷ l) (with_state m q registers mark)
unfolding with_state registers states start edges_read last_edge set_in rises edge_of
written-with_state l {m} q n registers mark room due w =
    record {
      registers = w.registers;
      states = w.states;
      start = w.start;
      edges = w.edges;
      set_at = λ k. set_of-with_state m q registers mark room k ∙ rw (due, w.set_at k);
      order = w.order;
    }

pub written-with_edge : (l : List Record) {m : Model} (from tag kind i to : ℕ) → m.edge_count < length m.edges → kind ≤ 2
    → Written l m
    → Written (edge from tag kind i to ∷ l) (with_edge m (edge_of_body (from ∷ tag ∷ kind ∷ i ∷ to ∷ [])))
unfolding with_edge registers states start edges_read last_edge set_in set_of
written-with_edge l {m} from tag kind i to room exists w =
    record {
      registers = w.registers;
      states = w.states;
      start = w.start;
      edges = omega arith;
      set_at = w.set_at;
      order = λ b body. rises-after (with_edge m e) m.edge_count (omega arith) (b ∷ body) ∙ rw last;
    }
  where
    e : Edge
    e = edge_of_body (from ∷ tag ∷ kind ∷ i ∷ to ∷ [])

    last : edge_bytes (edge_of (with_edge m e) m.edge_count) ≡ from ∷ tag ∷ kind ∷ i ∷ to ∷ []
    last =
        rw (edge_of-with_edge m e room m.edge_count, eq-eqb m.edge_count m.edge_count refl)
        (edge_bytes-read from tag kind i to exists)

-- ── Pairs ──

-- the partners are the pairs that are read
pub record Paired (l : List Record) (partners : List ℕ) : Type 0 where
  pub joined : (a b : ℕ) → pair a b ∈ l → (1 ≤ b) × (right_partner partners a ≡ b)
  pub read : (a b : ℕ) → right_partner partners a ≡ b → 1 ≤ b → pair a b ∈ l

-- a number for each constructor of a record
abbrev pub shape : Record → ℕ
shape (header r n q) = 1
shape (state n set mark) = 2
shape (edge from tag kind i to) = 3
shape (pair a b) = 4
shape (history n) = 5
shape end = 15

pub paired_none : (l : List Record) (n : ℕ) → NoPair l → Paired l (replicate n 0)
unfolding right_partner
paired_none l n no_pair = record { joined = λ a b m. absurd (no_pair a b m); read = λ a b e h. absurd (none a b e h) }
  where
    none : (a b : ℕ) → right_partner (replicate n 0) a ≡ b → 1 ≤ b → ⊥
    none zero b e h = omega arith
    none (suc k) b e h = omega (arith, get_d_replicate_default {A = ℕ} n k 0)

pub paired-other : {l : List Record} {partners : List ℕ} (x : Record) → (shape x ≡ 4 → ⊥) → Paired l partners → Paired (x ∷ l) partners
paired-other {l} x other h =
    record {
      joined = λ a b m. ⊎_elim (λ (e : pair a b ≡ x). absurd (other (sym (ap shape e)))) (h.joined a b) (Memᴰ.cases_cons m);
      read = λ a b e p. Memᴰ.tail (h.read a b e p);
    }

partner-set : (partners : List ℕ) (a b i : ℕ) → 1 ≤ a → a ≤ length partners
    → right_partner (set partners (a - 1) b) i ≡ cond (eqb a i) b (right_partner partners i)
unfolding right_partner
partner-set partners zero b i least fits = absurd (omega arith)
partner-set partners (suc j) b zero least fits = rw eqb-suc-zero
partner-set partners (suc j) b (suc k) least fits =
    let place : suc j - 1 ≡ j = omega arith in
    rw (place, eqb-suc-suc) (get_d_set partners j k b 0 fits)

-- a pair above all others is read
pub paired-set : {l : List Record} {partners : List ℕ} (a b : ℕ) → 1 ≤ a → a ≤ length partners → 1 ≤ b
    → ((i j : ℕ) → pair i j ∈ l → i < a) → Paired l partners
    → Paired (pair a b ∷ l) (set partners (a - 1) b)
paired-set {l} {partners} a b least fits positive above h =
    record { joined = λ i j m. joined i j (Memᴰ.cases_cons m); read = λ i j e p. read i j e p (eqb a i) refl }
  where
    joined : (i j : ℕ) → (pair i j ≡ pair a b) ⊎ (pair i j ∈ l) → (1 ≤ j) × (right_partner (set partners (a - 1) b) i ≡ j)
    joined i j (inl e) =
        let left : i ≡ a = cc in
        let right : j ≡ b = cc in
        (omega arith, rw (partner-set partners a b i least fits, eq-eqb a i (sym left)) (sym right))
    joined i j (inr m) =
        let old = h.joined i j m in
        let less = above i j m in
        (old.0, rw (partner-set partners a b i least fits, ne_eqb a i (omega arith)) old.1)

    read : (i j : ℕ) → right_partner (set partners (a - 1) b) i ≡ j → 1 ≤ j → (t : Bool) → eqb a i ≡ t → pair i j ∈ pair a b ∷ l
    read i j e p true d =
        let left = eqb-true a i d in
        let right = rw (partner-set partners a b i least fits, d) at e in
        let same : pair i j ≡ pair a b = cc in
        Memᴰ.head same
    read i j e p false d = Memᴰ.tail (h.read i j (rw (partner-set partners a b i least fits, d) at e) p)

-- ── Stages ──

-- the headers read while a side's model is read
abbrev pub headers_of : Side → ℕ
headers_of Left = 1
headers_of Right = 2

-- no record that follows the models is read
pub record ModelsOnly (l : List Record) : Type 0 where
  pub no_pair : NoPair l
  pub no_history : NoHistory l
  pub no_end : NoEnd l

-- state q of a side is due
pub record InStates (s : Side) (q : ℕ) (l : List Record) : Type 0 where
  pub side : headers l ≡ headers_of s
  pub read : states_read l ≡ q
  pub due : q < states l
  pub only : ModelsOnly l

-- the states of a side are read
pub record InEdges (s : Side) (l : List Record) : Type 0 where
  pub side : headers l ≡ headers_of s
  pub complete : Complete l
  pub only : ModelsOnly l

-- a pair is read
pub record InPairs (l : List Record) : Type 0 where
  pub side : headers l ≡ 2
  pub complete : Complete l
  pub some_pair : (a : ℕ) × (b : ℕ) × (pair a b ∈ l)
  pub no_history : NoHistory l
  pub no_end : NoEnd l

-- the history's size is read
pub record AfterSize (l : List Record) : Type 0 where
  pub side : headers l ≡ 2
  pub complete : Complete l
  pub some-history : (n : ℕ) × (history n ∈ l)
  pub no_end : NoEnd l

-- the end is read
pub record AtEnd (l : List Record) : Type 0 where
  pub side : headers l ≡ 2
  pub complete : Complete l
  pub last : (k : List Record) × (l ≡ end ∷ k)

-- what a stage says of the records read so far
abbrev pub AtStage : Stage → List Record → Type 0
AtStage Start l = l ≡ []
AtStage (States s q) l = InStates s q l
AtStage (Edges s) l = InEdges s l
AtStage Pairs l = InPairs l
AtStage Sized l = AfterSize l
AtStage Ended l = AtEnd l

-- while the right model is read: the left one, and the pairs
pub record LeftAndPairs (l : List Record) (t : Task) : Type 0 where
  pub left : Written (earlier l) t.left
  pub paired : Paired l t.start.partners

-- beside the model that is being read
abbrev pub Beside : Side → List Record → Task → Type 0
Beside Left l t = Unit {0}
Beside Right l t = LeftAndPairs l t

-- the task is what the records say, up to a side's model
pub record Says (s : Side) (l : List Record) (t : Task) : Type 0 where
  pub model : Written l (model_of t s)
  pub beside : Beside s l t

abbrev pub SaysAt : Stage → List Record → Task → Type 0
SaysAt Start l t = Unit {0}
SaysAt (States s q) l t = Says s l t
SaysAt (Edges s) l t = Says s l t
SaysAt Pairs l t = Says Right l t
SaysAt Sized l t = Says Right l t
SaysAt Ended l t = Says Right l t

pub record TiedAt (stage : Stage) (l : List Record) (t : Task) : Type 0 where
  pub at_stage : AtStage stage l
  pub says : SaysAt stage l t

abbrev pub Tied : List Record → Progress → Type 0
Tied l p = TiedAt p.stage l p.task

-- a record of one shape is not added by one of another
pub not_more : {l : List Record} {x y : Record} → (shape y ≡ shape x → ⊥) → (y ∈ l → ⊥) → y ∈ x ∷ l → ⊥
not_more {l} {x} {y} other h m = ⊎_elim (λ (e : y ≡ x). other (ap shape e)) h (Memᴰ.cases_cons m)

pub only_more : {l : List Record} {x : Record} → shape x < 4 → ModelsOnly l → ModelsOnly (x ∷ l)
only_more early h =
    record {
      no_pair = λ a b. not_more (λ e. omega arith) (h.no_pair a b);
      no_history = λ n. not_more (λ e. omega arith) (h.no_history n);
      no_end = not_more (λ e. omega arith) h.no_end;
    }
