-- What a record that passes its check adds to a model, and that the model stays valid. Assumes nothing.
use Prim.Native.Nat.{ℕ, zero, suc, ◌+◌, ◌-◌, ◌≤◌, ◌<◌}
use mathlib.Core.Path.{◌≡◌, refl, sym, ◌∙◌, ap}
use mathlib.Core.Bool.{Bool, true, false, cond}
use mathlib.Core.List.{List, [], ◌∷◌}
use native.Mathlib.Omega.{arith}
use lib.ListN.{length, get_or, length-set, length-replicate}
use lib.Dec.{eqb}
use borrow.Author.Tests.{eqb-true, eqb-false, ne_eqb}
use Rattle.fra.specs.Lists.{below}
use Rattle.fra.specs.Registers.{has, inside, with}
use Rattle.fra.specs.Model.{no_state, no_edge, set_of, mark_of, edge_of, edge_bytes, kind_number, kind_of}
use Rattle.fra.specs.Valid.{RegisterRule, ValidState, ValidEdge, ValidModel}
use Rattle.fra.specs.declared.EdgeKind.{EdgeKind}
use Rattle.fra.specs.declared.EdgeKind.TheVariants.{Known, LocallyFresh, GloballyFresh}
use Rattle.fra.specs.declared.Edge.{Edge}
use Rattle.fra.specs.declared.State.{State}
use Rattle.fra.specs.declared.Model.{Model}
use Rattle.task.specs.Records.{edge}
use Rattle.task.specs.TaskFile.{max_registers, max_states, tag_count, max_edges, headed, with_state, edge_of_body, keeps_rule, rises, with_edge}
use Rattle.task.specs.TaskBytes.{edge_record, WritableModel}
use Rattle.fra_laws.proofs.Tests.{and_left, and_right}
use Rattle.fra_laws.proofs.KindNumbers.{register_of-kind}
use Rattle.task_laws.proofs.RegisterBits.{has-below, inside_true}
use Rattle.task_laws.proofs.Arrays.{get_d_replicate_default, get_d_set}
use Rattle.task_laws.proofs.Checks.{HeaderFits, StateFits, EdgeFits}

-- ── What is in a model ──

cond_map : {A B : Type 0} (f : A → B) (t : Bool) (x y : A) → f (cond t x y) ≡ cond t (f x) (f y)
cond_map f true x y = refl
cond_map f false x y = refl

-- the states of a model with one state more
module _ (m : Model) (q registers mark : ℕ) (fits : q < length m.states) (k : ℕ) where
  stored : get_or (with_state m q registers mark).states k no_state
      ≡ cond (eqb q k) (record { set = registers; mark = mark }) (get_or m.states k no_state)
  unfolding with_state
  stored = get_d_set m.states q k (record { set = registers; mark = mark }) no_state fits

  pub set_of-with_state : set_of (with_state m q registers mark) k ≡ cond (eqb q k) registers (set_of m k)
  unfolding set_of
  set_of-with_state = ap (λ (s : State). s.set) stored ∙ cond_map (λ (s : State). s.set) (eqb q k) _ _

  pub mark_of-with_state : mark_of (with_state m q registers mark) k ≡ cond (eqb q k) mark (mark_of m k)
  unfolding mark_of
  mark_of-with_state = ap (λ (s : State). s.mark) stored ∙ cond_map (λ (s : State). s.mark) (eqb q k) _ _

-- the edges of a model with one edge more
pub edge_of-with_edge : (m : Model) (e : Edge) → m.edge_count < length m.edges → (k : ℕ)
    → edge_of (with_edge m e) k ≡ cond (eqb m.edge_count k) e (edge_of m k)
unfolding edge_of with_edge
edge_of-with_edge m e fits k = get_d_set m.edges m.edge_count k e no_edge fits

number-of-kind : (kind i : ℕ) → kind ≤ 2 → kind_number (kind_of kind i) ≡ kind
number-of-kind zero i h = refl
number-of-kind (suc zero) i h = refl
number-of-kind (suc (suc zero)) i h = refl
number-of-kind (suc (suc (suc kind))) i h = absurd (omega arith)

-- an edge has the bytes and the record that it was read from
pub edge_bytes-read : (from tag kind i to : ℕ) → kind ≤ 2
    → edge_bytes (edge_of_body (from ∷ tag ∷ kind ∷ i ∷ to ∷ [])) ≡ from ∷ tag ∷ kind ∷ i ∷ to ∷ []
unfolding edge_bytes edge_of_body
edge_bytes-read from tag kind i to h = rw (number-of-kind kind i h, register_of-kind kind i)

pub edge_record-read : (k from tag kind i to : ℕ) → kind ≤ 2
    → edge_record k (edge_of_body (from ∷ tag ∷ kind ∷ i ∷ to ∷ [])) ≡ edge from tag kind i to
unfolding edge_record edge_of_body
edge_record-read k from tag kind i to h = rw (number-of-kind kind i h, register_of-kind kind i)

-- ── The order of edges ──

pub rises-first : (m : Model) → m.edge_count ≡ 0 → (body : List ℕ) → rises m body ≡ true
unfolding rises
rises-first m e body = rw e

pub rises-after : (m : Model) (k : ℕ) → suc k ≡ m.edge_count → (body : List ℕ)
    → rises m body ≡ below (edge_bytes (edge_of m k)) body
unfolding rises
rises-after m k e body =
    let last : m.edge_count - 1 ≡ k = omega arith in
    rw (ne_eqb m.edge_count 0 (omega arith), last)

-- ── Valid models ──

-- a model with its header and its first n states
pub record Begun (n : ℕ) (m : Model) : Type 0 where
  pub registers : m.registers ≤ max_registers
  pub start : m.start < m.state_count
  pub state_limit : m.state_count ≤ max_states
  pub no_edges : m.edge_count ≡ 0
  pub state_array : length m.states ≡ max_states
  pub edge_array : length m.edges ≡ max_edges
  pub states : (q : ℕ) → q < n → ValidState m q
  pub states_past : (q : ℕ) → n ≤ q → get_or m.states q no_state ≡ no_state
  pub edges_past : (k : ℕ) → edge_of m k ≡ no_edge

-- a model with all its states, and edges
pub record Whole (m : Model) : Type 0 where
  pub valid : ValidModel max_registers m
  pub writable : WritableModel m

pub begun-headed : {r s q : ℕ} → HeaderFits r s q → Begun 0 (headed r s q)
unfolding headed edge_of
begun-headed h =
    record {
      registers = h.registers;
      start = h.start;
      state_limit = h.states;
      no_edges = refl;
      state_array = length-replicate max_states no_state;
      edge_array = length-replicate max_edges no_edge;
      states = λ q b. absurd (omega arith);
      states_past = λ q b. get_d_replicate_default max_states q no_state;
      edges_past = λ k. get_d_replicate_default max_edges k no_edge;
    }

pub begun-with_state : {m : Model} {q n registers mark : ℕ} → q < m.state_count → Begun q m → StateFits m q n registers mark
    → Begun (suc q) (with_state m q registers mark)
unfolding with_state edge_of
begun-with_state {m} {q} {n} {registers} {mark} due h f =
    record {
      registers = h.registers;
      start = h.start;
      state_limit = h.state_limit;
      no_edges = h.no_edges;
      state_array = length-set m.states q (record { set = registers; mark = mark }) ∙ h.state_array;
      edge_array = h.edge_array;
      states = λ k b. at k b (eqb q k) refl;
      states_past = λ k b.
          let other = ne_eqb q k (omega arith) in
          rw other at (stored m q registers mark fits k) ∙ h.states_past k (omega arith);
      edges_past = h.edges_past;
    }
  where
    fits : q < length m.states
    fits = omega arith

    at : (k : ℕ) → k < suc q → (t : Bool) → eqb q k ≡ t → ValidState (with_state m q registers mark) k
    at k b true e =
        let s : set_of (with_state m q registers mark) k ≡ registers = rw e at (set_of-with_state m q registers mark fits k) in
        let w : mark_of (with_state m q registers mark) k ≡ mark = rw e at (mark_of-with_state m q registers mark fits k) in
        record { existing = λ i x. has-below m.registers registers i f.set-fits (rw s at x); mark = rw w f.mark-fits }
    at k b false e =
        let s : set_of (with_state m q registers mark) k ≡ set_of m k = rw e at (set_of-with_state m q registers mark fits k) in
        let w : mark_of (with_state m q registers mark) k ≡ mark_of m k = rw e at (mark_of-with_state m q registers mark fits k) in
        let v = h.states k (omega (arith, eqb-false q k e)) in
        record { existing = λ i x. v.existing i (rw s at x); mark = rw w v.mark }

-- a model that has all its states is whole
pub begun-whole : {m : Model} {n : ℕ} → Begun n m → n ≡ m.state_count → Whole m
begun-whole h e =
    record {
      valid = record {
        registers = h.registers;
        states_placed = omega arith;
        edges_placed = omega arith;
        start = h.start;
        states = λ q b. h.states q (omega arith);
        edges = λ k b. absurd (omega arith);
        rising = λ k b. absurd (omega arith);
      };
      writable = record {
        tags = λ k b. absurd (omega arith);
        state_array = h.state_array;
        edge_array = h.edge_array;
        states_past = λ q b. h.states_past q (omega arith);
        edges_past = λ k b. h.edges_past k;
      };
    }

pub rule-kept : (r from to : ℕ) (kind : EdgeKind) → ((i : ℕ) → has to i ≡ true → i ≤ r) → keeps_rule r from to kind ≡ true
    → RegisterRule from to kind
unfolding keeps_rule
rule-kept r from to (Known i) existing h = (
  and_left (has from i) (inside r to (has from)) h,
  inside_true r to (has from) existing (and_right (has from i) (inside r to (has from)) h),
)
rule-kept r from to (LocallyFresh i) existing h = inside_true r to (with from i) existing h
rule-kept r from to (GloballyFresh i) existing h = inside_true r to (with from i) existing h

-- an edge that is read is valid
edge-valid : {m : Model} {from tag kind i to : ℕ} → Whole m → EdgeFits m from tag kind i to
    → ValidEdge m (edge_of_body (from ∷ tag ∷ kind ∷ i ∷ to ∷ []))
unfolding edge_of_body
edge-valid {m} {from} {tag} {kind} {i} {to} h f =
    record {
      from = f.exists.from-exists;
      to = f.exists.to-exists;
      least = rw (register_of-kind kind i) f.exists.register-least;
      greatest = rw (register_of-kind kind i) f.exists.register-exists;
      rule =
          rule-kept m.registers (set_of m from) (set_of m to) (kind_of kind i)
          (h.valid.states to f.exists.to-exists).existing f.rule;
    }

-- and is above the edge before it
edge_above : {m : Model} {from tag kind i to : ℕ} → EdgeFits m from tag kind i to → (k : ℕ) → suc k ≡ m.edge_count
    → below (edge_bytes (edge_of m k)) (edge_bytes (edge_of_body (from ∷ tag ∷ kind ∷ i ∷ to ∷ []))) ≡ true
edge_above {m} {from} {tag} {kind} {i} {to} f k e =
    rw (edge_bytes-read from tag kind i to f.exists.kind-exists) (sym (rises-after m k e _) ∙ f.rises)

-- a valid model with one edge more
valid-with_edge : {r : ℕ} {m : Model} (e : Edge) → ValidModel r m → ValidEdge m e
    → ((k : ℕ) → suc k ≡ m.edge_count → below (edge_bytes (edge_of m k)) (edge_bytes e) ≡ true)
    → m.edge_count < length m.edges
    → ValidModel r (with_edge m e)
unfolding with_edge set_of mark_of
valid-with_edge {r} {m} e h v above room =
    record {
      registers = h.registers;
      states_placed = h.states_placed;
      edges_placed = rw (length-set m.edges m.edge_count e) (omega arith);
      start = h.start;
      states = λ q b. record { existing = (h.states q b).existing; mark = (h.states q b).mark };
      edges = λ k b. edge-at k b (eqb m.edge_count k) refl;
      rising = λ k b. rising-at k b (eqb m.edge_count (suc k)) refl;
    }
  where
    kept : {x : Edge} → ValidEdge m x → ValidEdge (with_edge m e) x
    kept w = record { from = w.from; to = w.to; least = w.least; greatest = w.greatest; rule = w.rule }

    edge-at : (k : ℕ) → k < m.edge_count + 1 → (t : Bool) → eqb m.edge_count k ≡ t
        → ValidEdge (with_edge m e) (edge_of (with_edge m e) k)
    edge-at k b true d = rw (edge_of-with_edge m e room k, d) (kept v)
    edge-at k b false d =
        rw (edge_of-with_edge m e room k, d) (kept (h.edges k (omega (arith, eqb-false m.edge_count k d))))

    rising-at : (k : ℕ) → suc k < m.edge_count + 1 → (t : Bool) → eqb m.edge_count (suc k) ≡ t
        → below (edge_bytes (edge_of (with_edge m e) k)) (edge_bytes (edge_of (with_edge m e) (suc k))) ≡ true
    rising-at k b t d =
        rw (edge_of-with_edge m e room (suc k), edge_of-with_edge m e room k, d, ne_eqb m.edge_count k (omega arith)) (at t d)
      where
        at : (t : Bool) → eqb m.edge_count (suc k) ≡ t
            → below (edge_bytes (edge_of m k)) (edge_bytes (cond t e (edge_of m (suc k)))) ≡ true
        at true d = above k (sym (eqb-true m.edge_count (suc k) d))
        at false d = h.rising k (omega (arith, eqb-false m.edge_count (suc k) d))

pub whole-with_edge : {m : Model} {from tag kind i to : ℕ} → Whole m → EdgeFits m from tag kind i to
    → Whole (with_edge m (edge_of_body (from ∷ tag ∷ kind ∷ i ∷ to ∷ [])))
unfolding with_edge edge_of_body
whole-with_edge {m} {from} {tag} {kind} {i} {to} h f =
    record {
      valid = valid-with_edge e h.valid (edge-valid h f) (edge_above f) room;
      writable = record {
        tags = λ k b. tag_at k b (eqb m.edge_count k) refl;
        state_array = h.writable.state_array;
        edge_array = length-set m.edges m.edge_count _ ∙ h.writable.edge_array;
        states_past = h.writable.states_past;
        edges_past = λ k b.
            rw (edge_of-with_edge m e room k, ne_eqb m.edge_count k (omega arith)) (h.writable.edges_past k (omega arith));
      };
    }
  where
    e : Edge
    e = edge_of_body (from ∷ tag ∷ kind ∷ i ∷ to ∷ [])

    room : m.edge_count < length m.edges
    room = omega (arith, f.room, h.writable.edge_array)

    tag_at : (k : ℕ) → k < m.edge_count + 1 → (t : Bool) → eqb m.edge_count k ≡ t → (edge_of (with_edge m e) k).tag < tag_count
    tag_at k b t d = rw (edge_of-with_edge m e room k, d) (at t d)
      where
        at : (t : Bool) → eqb m.edge_count k ≡ t → (cond t e (edge_of m k)).tag < tag_count
        at true d = f.exists.tag-exists
        at false d = h.writable.tags k (omega (arith, eqb-false m.edge_count k d))
