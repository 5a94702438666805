-- Every task that a file can hold is read from some file: the records that lay it out, one after another, pass. Assumes nothing.
use Prim.Native.Nat.{ℕ, zero, suc, ◌-◌, ◌^◌, ◌≤◌, ◌<◌}
use mathlib.Core.Path.{◌≡◌, refl, sym, ◌∙◌, ap, ap₂, subst}
use mathlib.Core.Logic.{◌⊎◌, inl, inr}
use mathlib.Core.Bool.{Bool, true, false, cond}
use mathlib.Core.List.{List, [], ◌++◌}
use native.Mathlib.Decide.{dec_lt}
use native.Mathlib.Numerals.{add-one}
use native.Mathlib.Omega.{arith}
use lib.ListN.{get_or, set, replicate, get_or-eq_default}
use lib.Seq.{set-get_or}
use lib.Dec.{eqb}
use borrow.Author.Tests.{eqb-true, eq-eqb, ne_eqb}
use Rattle.fra.specs.Lists.{any}
use Rattle.fra.specs.Model.{no_state, no_edge, set_of, mark_of, edge_of, edge_bytes, kind_number, register_of}
use Rattle.fra.specs.Rules.{model_of}
use Rattle.fra.specs.Position.{right_partner, most_seen}
use Rattle.fra.specs.Valid.{ValidEdge}
use Rattle.fra.specs.declared.EdgeKind.{EdgeKind}
use Rattle.fra.specs.declared.EdgeKind.TheVariants.{Known, LocallyFresh, GloballyFresh}
use Rattle.fra.specs.declared.Edge.{Edge}
use Rattle.fra.specs.declared.Model.{Model}
use Rattle.fra.specs.declared.Task.{Task}
use Rattle.fra.specs.declared.Side.{Side}
use Rattle.fra.specs.declared.Side.TheVariants.{Left, Right}
use Rattle.task.specs.Records.{Record, header, state, edge, pair, history, end, encode}
use Rattle.task.specs.TaskFile
use Rattle.task.specs.TaskFile.{max_registers, max_states, max_edges, with_model, headed, with_header, with_state, edge_of_body, rises, with_edge, with_pair, with_history, after_state, header_at, state_at, edge_at, pair_at, history_at, end_at, header_refusal, state_refusal, edge_refusal, pair_refusal, history_refusal, at_start, no_task, read_task}
use Rattle.task.specs.TaskBytes.{Writable}
use Rattle.task.specs.declared.Stage.{Stage}
use Rattle.task.specs.declared.Stage.TheVariants.{Start, States, Edges, Pairs, Sized, Ended}
use Rattle.task.specs.declared.Progress.{Progress}
use Rattle.task.specs.declared.Refusal.{Refusal}
use Rattle.std.specs.Prelude.{Result, Ok}
use Rattle.fra_laws.proofs.Tests.{passes_unless, fails_unless}
use Rattle.fra_laws.proofs.KindNumbers.{kind_of-number}
use Rattle.fra_laws.proofs.Legal.{Legal, legal_facts}
use Rattle.task_laws.proofs.RegisterBits.{has_above}
use Rattle.task_laws.proofs.Arrays.{any-index, up_to, up_to-before, up_to_past, up_to_none, up_to-all, up_to-set}
use Rattle.task_laws.proofs.RunsAndHalts.{step_at, decided, Run, begin, onward, ended, halt_decides}
use Rattle.task_laws.proofs.Checks.{HeaderFits, header_passes, StateFits, state_passes, EdgeFits, edge_passes, PairFits, pair_passes, HistoryFits, history_passes}
use Rattle.task_laws.proofs.Models.{rises-first, rises-after, Whole}
use Rattle.task_laws.proofs.RecordsRead.{zeros_rising}
use Rattle.task_laws.proofs.Judging.{register_faulty, register-kept}

-- ── Records in a row ──

-- the reader comes to this stage and task, whatever rest of a file is before it
abbrev Reachable : Stage → Task → Type 0
Reachable stage t = (rest : List ℕ) → (file : List ℕ) × Run file (record { stage = stage; task = t }) rest

-- a record whose check refuses nothing leads on
reach : (x : Record) (c : Result (Unit {0}) Refusal) (stage : Stage) (t : Task) (after : Progress)
    → step_at x stage (record { stage = stage; task = t }) ≡ decided c after → c ≡ Ok tt
    → Reachable stage t → Reachable after.stage after.task
reach x c stage t after e z h rest =
    let w = h (encode x ++ rest) in
    (w.0, onward x w.1 (e ∙ rw z))

-- what holds at first and is kept n times
in_a_row : (P : ℕ → Type 0) (n : ℕ) → P 0 → ((k : ℕ) → k < n → P k → P (suc k)) → P n
in_a_row P zero h f = h
in_a_row P (suc n) h f = f n (omega arith) (in_a_row P n h (λ k b. f k (omega arith)))

-- ── Parts of a model ──

-- a model with its first q states only, and one with its first k edges
abbrev states_up_to : ℕ → Model → Model
states_up_to q m =
    record {
      registers = m.registers;
      start = m.start;
      state_count = m.state_count;
      edge_count = 0;
      states = up_to no_state q m.states;
      edges = replicate max_edges no_edge;
    }

abbrev edges_up_to : ℕ → Model → Model
edges_up_to k m =
    record {
      registers = m.registers;
      start = m.start;
      state_count = m.state_count;
      edge_count = k;
      states = m.states;
      edges = up_to no_edge k m.edges;
    }

kind-exists : (kind : EdgeKind) → kind_number kind ≤ 2
kind-exists (Known i) = omega arith
kind-exists (LocallyFresh i) = omega arith
kind-exists (GloballyFresh i) = omega arith

-- an edge passes its check
abbrev EdgeFitting : Model → Edge → Type 0
EdgeFitting m e = EdgeFits m e.from e.tag (kind_number e.kind) (register_of e.kind) e.to

module _ {m : Model} (whole : Whole m) where
  -- what is read once nothing, one state more, all states, one edge more, all edges are added
  none_added : headed m.registers m.state_count m.start ≡ states_up_to 0 m
  unfolding headed
  none_added = rw (up_to_none no_state max_states m.states whole.writable.state_array)

  state-added : (q : ℕ) → q < m.state_count → with_state (states_up_to q m) q (set_of m q) (mark_of m q) ≡ states_up_to (suc q) m
  unfolding with_state set_of mark_of
  state-added q b = rw (← up_to-set no_state q m.states (omega (arith, whole.valid.states_placed)))

  states-added : states_up_to m.state_count m ≡ edges_up_to 0 m
  states-added =
      rw (up_to-all no_state m.state_count m.states whole.writable.states_past, up_to_none no_edge max_edges m.edges whole.writable.edge_array)

  edge-added : (k : ℕ) → k < m.edge_count → with_edge (edges_up_to k m) (edge_of m k) ≡ edges_up_to (suc k) m
  unfolding with_edge edge_of
  edge-added k b = rw (← up_to-set no_edge k m.edges (omega (arith, whole.valid.edges_placed)), add-one)

  edges-added : edges_up_to m.edge_count m ≡ m
  unfolding edge_of
  edges-added = rw (up_to-all no_edge m.edge_count m.edges whole.writable.edges_past)

  -- each record passes its check
  header-fitting : HeaderFits m.registers m.state_count m.start
  header-fitting =
      record {
        registers = whole.valid.registers;
        states = omega (arith, whole.valid.states_placed, whole.writable.state_array);
        start = whole.valid.start;
      }

  state-fitting : (q : ℕ) → q < m.state_count → StateFits (states_up_to q m) q q (set_of m q) (mark_of m q)
  state-fitting q b =
      record {
        number_due = refl;
        set-fits = at (dec_lt (set_of m q) (2 ^ m.registers));
        mark-fits = (whole.valid.states q b).mark;
      }
    where
      at : Dec (set_of m q < 2 ^ m.registers) → set_of m q < 2 ^ m.registers
      at (yes d) = d
      at (no d) =
          let w = has_above m.registers (set_of m q) (omega arith) in
          absurd (omega (arith, (whole.valid.states q b).existing w.0 w.1))

  edge-fitting : (k : ℕ) → k < m.edge_count → EdgeFitting (edges_up_to k m) (edge_of m k)
  unfolding set_of edge_of edge_bytes
  edge-fitting k b =
      record {
        exists =
            record {
              from-exists = v.from;
              tag-exists = whole.writable.tags k b;
              kind-exists = kind-exists e.kind;
              register-least = v.least;
              register-exists = v.greatest;
              to-exists = v.to;
            };
        rule =
            passes_unless _
            (λ f.
            register-kept (set_of m e.from) (set_of m e.to) (kind_number e.kind) (register_of e.kind)
            (rw (kind_of-number e.kind) v.rule)
            (register_faulty m.registers (set_of m e.from) (set_of m e.to) (kind_number e.kind) (register_of e.kind) f));
        rises = above k b;
        room = omega (arith, whole.valid.edges_placed, whole.writable.edge_array);
      }
    where
      e : Edge
      e = edge_of m k

      v : ValidEdge m e
      v = whole.valid.edges k b

      above : (k : ℕ) → k < m.edge_count → rises (edges_up_to k m) (edge_bytes (edge_of m k)) ≡ true
      above zero b = rises-first (edges_up_to 0 m) refl _
      above (suc k) b =
          rises-after (edges_up_to (suc k) m) k refl _
          ∙ rw (up_to-before no_edge (suc k) m.edges k (omega arith)) (whole.valid.rising k b)

-- ── Models ──

-- the stage before a side's model
abbrev opening : Side → Stage
opening Left = Start
opening Right = Edges Left

header-reached : (s : Side) (t : Task) {r n q : ℕ} → HeaderFits r n q → Reachable (opening s) t
    → Reachable (States s 0) (with_header t s (headed r n q))
unfolding TaskFile.header header_at
header-reached Left t {r} {n} {q} f = reach (header r n q) (header_refusal r n q) Start t _ refl (header_passes f)
header-reached Right t {r} {n} {q} f = reach (header r n q) (header_refusal r n q) (Edges Left) t _ refl (header_passes f)

state-reached : (s : Side) (t : Task) (q set mark : ℕ) → StateFits (model_of t s) q q set mark → Reachable (States s q) t
    → Reachable (after_state (model_of t s) s q) (with_model t s (with_state (model_of t s) q set mark))
unfolding TaskFile.state state_at
state-reached s t q set mark f =
    reach (state q set mark) (state_refusal (model_of t s) q q set mark) (States s q) t _ refl (state_passes f)

edge-reached : (s : Side) (t : Task) (e : Edge) → EdgeFitting (model_of t s) e → Reachable (Edges s) t
    → Reachable (Edges s) (with_model t s (with_edge (model_of t s) e))
unfolding TaskFile.edge edge_at edge_bytes edge_of_body
edge-reached s t e f h =
    rw (kind_of-number e.kind) at
    (reach (edge e.from e.tag (kind_number e.kind) (register_of e.kind) e.to) (edge_refusal (model_of t s) (edge_bytes e)) (Edges s) t
    _ refl (edge_passes f) h)

model_of-with_header : (t : Task) (s : Side) (m : Model) → model_of (with_header t s m) s ≡ m
unfolding with_header
model_of-with_header t Left m = refl
model_of-with_header t Right m = refl

-- a side's model is exchanged for one with the same start
with_model-with_header : (t : Task) (s : Side) (m k : Model) → m.start ≡ k.start → with_model (with_header t s m) s k ≡ with_header t s k
unfolding with_header
with_model-with_header t Left m k e = refl
with_model-with_header t Right m k e = rw e

module _ (s : Side) (t : Task) {m : Model} (whole : Whole m) where
  -- the first q states of a side's model are laid out: the next one is due, or the edges
  abbrev StatesLaid : ℕ → Type 0
  StatesLaid q =
      Reachable (cond (eqb q m.state_count) (Edges s) (States s q)) (with_header t s (states_up_to q m))

  -- and its first k edges
  abbrev EdgesLaid : ℕ → Type 0
  EdgesLaid k = Reachable (Edges s) (with_header t s (edges_up_to k m))

  one_state : (q : ℕ) → q < m.state_count → StatesLaid q → StatesLaid (suc q)
  unfolding after_state
  one_state q b h =
      rw (same, add-one, state-added whole q b, with_model-with_header t s (states_up_to q m) (states_up_to (suc q) m) refl) at
      (state-reached s (with_header t s (states_up_to q m)) q (set_of m q) (mark_of m q) (rw same (state-fitting whole q b))
      (rw (ne_eqb q m.state_count (omega arith)) at h))
    where
      same : model_of (with_header t s (states_up_to q m)) s ≡ states_up_to q m
      same = model_of-with_header t s (states_up_to q m)

  one_edge : (k : ℕ) → k < m.edge_count → EdgesLaid k → EdgesLaid (suc k)
  one_edge k b h =
      rw (same, edge-added whole k b, with_model-with_header t s (edges_up_to k m) (edges_up_to (suc k) m) refl) at
      (edge-reached s (with_header t s (edges_up_to k m)) (edge_of m k) (rw same (edge-fitting whole k b)) h)
    where
      same : model_of (with_header t s (edges_up_to k m)) s ≡ edges_up_to k m
      same = model_of-with_header t s (edges_up_to k m)

  model-reached : Reachable (opening s) t → Reachable (Edges s) (with_header t s m)
  model-reached h = rw (edges-added whole) at (in_a_row EdgesLaid m.edge_count states_laid one_edge)
    where
      header_laid : StatesLaid 0
      header_laid =
          rw (ne_eqb 0 m.state_count (omega (arith, whole.valid.start)), ← none_added whole)
          (header-reached s t (header-fitting whole) h)

      states_laid : EdgesLaid 0
      states_laid =
          rw (eq-eqb m.state_count m.state_count refl, states-added whole) at
          (in_a_row StatesLaid m.state_count header_laid one_state)

-- ── Pairs, the history's size and the end ──

-- the task is laid out up to its pairs, with or without one
abbrev PairsLaid : Task → Type 0
PairsLaid t = Reachable (Edges Right) t ⊎ Reachable Pairs t

-- or up to its end, with or without the history's size
abbrev Unended : Task → Type 0
Unended t = PairsLaid t ⊎ Reachable Sized t

pair-reached : (t : Task) (a b : ℕ) → PairFits t a b → PairsLaid t → PairsLaid (with_pair t a b)
unfolding TaskFile.pair pair_at
pair-reached t a b f (inl h) = inr (reach (pair a b) (pair_refusal t a b) (Edges Right) t _ refl (pair_passes f) h)
pair-reached t a b f (inr h) = inr (reach (pair a b) (pair_refusal t a b) Pairs t _ refl (pair_passes f) h)

history-reached : (t : Task) (n : ℕ) → HistoryFits t n → PairsLaid t → Reachable Sized (with_history t n)
unfolding TaskFile.history history_at
history-reached t n f (inl h) = reach (history n) (history_refusal t n) (Edges Right) t _ refl (history_passes f) h
history-reached t n f (inr h) = reach (history n) (history_refusal t n) Pairs t _ refl (history_passes f) h

end-reached : (t : Task) → Unended t → Reachable Ended t
unfolding TaskFile.end end_at
end-reached t (inl (inl h)) = reach end (Ok tt) (Edges Right) t _ refl refl h
end-reached t (inl (inr h)) = reach end (Ok tt) Pairs t _ refl refl h
end-reached t (inr h) = reach end (Ok tt) Sized t _ refl refl h

-- a task's models, with these states, partners and history size to start from, stated or not
abbrev started : Task → ℕ → ℕ → List ℕ → ℕ → Bool → Task
started t left right partners size stated =
    record {
      left = t.left;
      right = t.right;
      start = record { left = left; right = right; partners = partners; history = size };
      history_stated = stated;
    }

-- no size is stated
abbrev unsized : Task → ℕ → ℕ → List ℕ → Task
unsized t left right partners = started t left right partners (most_seen max_registers) false

module _ {t : Task} (writable : Writable t) where
  abbrev partners : List ℕ
  partners = t.start.partners

  -- the task with the partners of its first k left registers only, and no size
  abbrev pairs_up_to : ℕ → Task
  pairs_up_to k = unsized t t.left.start t.right.start (up_to 0 k partners)

  left-whole : Whole t.left
  left-whole = record { valid = writable.valid.left; writable = writable.left }

  right-whole : Whole t.right
  right-whole = record { valid = writable.valid.right; writable = writable.right }

  legal-start : Legal max_registers t t.start
  legal-start = legal_facts max_registers t t.start writable.valid.start-legal

  pair-fitting : (k : ℕ) → 1 ≤ get_or partners k 0 → PairFits (pairs_up_to k) (suc k) (get_or partners k 0)
  unfolding right_partner
  pair-fitting k p =
      record {
        left = rw writable.valid.start_left at (legal-start.matches.left-has (suc k) p);
        right = rw writable.valid.start_right at (legal-start.matches.right-has (suc k) p);
        rises = zeros_rising (up_to 0 k partners) (suc k) (λ n b. up_to_past 0 k partners n (omega arith));
        unused =
            fails_unless (any (eqb (get_or partners k 0)) (up_to 0 k partners))
            (λ e.
            let w = any-index (eqb (get_or partners k 0)) (up_to 0 k partners) 0 e in
            elsewhere w.0 (eqb-true (get_or partners k 0) (get_or (up_to 0 k partners) w.0 0) w.2) (dec_lt w.0 k));
      }
    where
      elsewhere : (j : ℕ) → get_or partners k 0 ≡ get_or (up_to 0 k partners) j 0 → Dec (j < k) → ⊥
      elsewhere j e (yes b) =
          omega (arith, legal-start.matches.injective (suc k) (suc j) p (e ∙ up_to-before 0 k partners j b))
      elsewhere j e (no b) = omega (arith, up_to_past 0 k partners j (omega arith))

  one_pair : (k : ℕ) → k < max_registers → PairsLaid (pairs_up_to k) → PairsLaid (pairs_up_to (suc k))
  unfolding with_pair
  one_pair k b h = rw (← up_to-set 0 k partners (omega (arith, legal-start.long))) (at (get_or partners k 0) refl)
    where
      at : (x : ℕ) → get_or partners k 0 ≡ x
          → PairsLaid (unsized t t.left.start t.right.start (set (up_to 0 k partners) k x))
      at zero e =
          let none = rw (up_to_past 0 k partners k (omega arith)) at (set-get_or (up_to 0 k partners) k 0) in
          rw none h
      at (suc x) e =
          let place : suc k - 1 ≡ k = omega arith in
          rw (place, e) at (pair-reached (pairs_up_to k) (suc k) (get_or partners k 0) (pair-fitting k (omega arith)) h)

  models_reached : Reachable (Edges Right) (pairs_up_to 0)
  unfolding with_header at_start no_task
  models_reached =
      rw (up_to_none 0 max_registers partners legal-start.long)
      (model-reached Right (with_header no_task Left t.left) right-whole
      (model-reached Left no_task left-whole (λ rest. (rest, begin))))

  pairs-all : pairs_up_to max_registers ≡ unsized t t.start.left t.start.right partners
  pairs-all =
      ap (unsized t t.left.start t.right.start)
      (up_to-all 0 max_registers partners (λ k b. get_or-eq_default partners 0 (omega (arith, legal-start.long))))
      ∙ ap₂ (λ (a b : ℕ). unsized t a b partners) (sym writable.valid.start_left) (sym writable.valid.start_right)

  -- the record of the size follows, if the task states it; if not, it is the greatest
  size-reached : PairsLaid (unsized t t.start.left t.start.right partners) → Unended t
  unfolding with_history
  size-reached h = at t.history_stated refl
    where
      resized : ℕ → Bool → Task
      resized = started t t.start.left t.start.right partners

      at : (b : Bool) → t.history_stated ≡ b → Unended t
      at true e =
          inr
          (subst (λ (u : Task). Reachable Sized u) (ap (resized t.start.history) (sym e))
          (history-reached (resized (most_seen max_registers) false) t.start.history
          (record { least = legal-start.least; most = legal-start.most }) h))
      at false e =
          inl (subst (λ (u : Task). PairsLaid u) (ap₂ resized (sym (writable.valid.unstated e)) (sym e)) h)

  pub writable_read : (file : List ℕ) × (read_task file ≡ Ok t)
  writable_read =
      let paired = in_a_row (λ k. PairsLaid (pairs_up_to k)) max_registers (inl models_reached) one_pair in
      let w = end-reached t (size-reached (rw pairs-all at paired)) [] in
      (w.0, halt_decides w.1 (ended refl))
