-- The records of what is read at a stage; those of a model and of a matching when a state, an edge or a pair is added at their
-- end; the history's size. Assumes nothing.
use Prim.Native.Nat.{ℕ, zero, suc, ◌+◌, ◌-◌, ◌≤◌, ◌<◌}
use mathlib.Core.Path.{◌≡◌, refl, sym, ◌∙◌, ap}
use mathlib.Core.Bool.{true, false}
use mathlib.Core.List.{List, [], ◌∷◌, ◌++◌, map, append-nil, append_assoc}
use native.Mathlib.Omega.{arith}
use native.Mathlib.Decide.{dec_lt}
use lib.ListN.{length, get_or, drop, set, length-drop, get_or-eq_default}
use lib.Seq.{get_or-drop}
use lib.Dec.{ltb}
use borrow.Author.Tests.{ltb-true, lt-ltb, eq-eqb, ne_eqb, not-true}
use Rattle.fra.specs.Lists.{any, count}
use Rattle.fra.specs.Model.{set_of, mark_of, edge_of}
use Rattle.fra.specs.Rules.{model_of}
use Rattle.fra.specs.declared.Edge.{Edge}
use Rattle.fra.specs.declared.Model.{Model}
use Rattle.fra.specs.declared.Task.{Task}
use Rattle.fra.specs.declared.Side.{Side}
use Rattle.fra.specs.declared.Side.TheVariants.{Left, Right}
use Rattle.task.specs.Records.{Record, header, state, pair, end}
use Rattle.task.specs.TaskFile.{with_model, with_state, with_edge, rising}
use Rattle.task.specs.TaskBytes.{state_record, edge_record, model_records, pair_records, history_records, task_records}
use Rattle.task.specs.declared.Stage.{Stage}
use Rattle.task.specs.declared.Stage.TheVariants.{Start, States, Edges, Pairs, Sized, Ended}
use Rattle.fra_laws.proofs.Tests.{not_both, fails_unless}
use Rattle.fra_laws.proofs.ByPlace.{places-length, places-at, places-more, listed}
use Rattle.task_laws.proofs.Arrays.{any_at, any-index}
use Rattle.task_laws.proofs.Models.{set_of-with_state, mark_of-with_state, edge_of-with_edge}

-- ── Models ──

-- records by their places, and one more
more : (f g : ℕ → Record) (n : ℕ) (x : Record) → ((k : ℕ) → k < n → f k ≡ g k) → f n ≡ x
    → map f (count 0 (n + 1)) ≡ map g (count 0 n) ++ x ∷ []
more f g n x same last =
    rw (places-more f n, last, listed f n (map g (count 0 n)) end (places-length g n) (λ k b. same k b ∙ sym (places-at g n k end b)))

-- the header and the first q states of a model
abbrev pub begun_records : ℕ → Model → List Record
begun_records q m = header m.registers m.state_count m.start ∷ map (state_record m) (count 0 q)

pub begun_more : (m : Model) (q set mark : ℕ) → q < length m.states
    → begun_records (q + 1) (with_state m q set mark) ≡ begun_records q m ++ state q set mark ∷ []
unfolding with_state state_record
begun_more m q set mark fits =
    ap (λ (l : List Record). header m.registers m.state_count m.start ∷ l)
    (more (state_record (with_state m q set mark)) (state_record m) q (state q set mark)
    (λ k b.
    rw (set_of-with_state m q set mark fits k, mark_of-with_state m q set mark fits k, ne_eqb q k (omega arith)))
    (rw (set_of-with_state m q set mark fits q, mark_of-with_state m q set mark fits q, eq-eqb q q refl)))

-- a model without edges
pub begun_all : (m : Model) → m.edge_count ≡ 0 → model_records edge_record m ≡ begun_records m.state_count m
unfolding model_records count
begun_all m e =
    ap (λ (n : ℕ). begun_records m.state_count m ++ map (λ k. edge_record k (edge_of m k)) (count 0 n)) e
    ∙ append-nil (begun_records m.state_count m)

pub edges_more : (m : Model) (e : Edge) → m.edge_count < length m.edges
    → model_records edge_record (with_edge m e) ≡ model_records edge_record m ++ edge_record m.edge_count e ∷ []
unfolding model_records with_edge state_record set_of mark_of
edges_more m e fits =
    ap (λ (l : List Record). begun_records m.state_count m ++ l)
    (more (λ k. edge_record k (edge_of (with_edge m e) k)) (λ k. edge_record k (edge_of m k)) m.edge_count
    (edge_record m.edge_count e)
    (λ k b. rw (edge_of-with_edge m e fits k, ne_eqb m.edge_count k (omega arith)))
    (rw (edge_of-with_edge m e fits m.edge_count, eq-eqb m.edge_count m.edge_count refl)))
    ∙ sym (append_assoc (begun_records m.state_count m) _ _)

-- ── Pairs ──

-- partners that are all zeros
pub pairs_none : (i : ℕ) (partners : List ℕ) → ((k : ℕ) → get_or partners k 0 ≡ 0) → pair_records i partners ≡ []
unfolding pair_records
pairs_none i [] z = refl
pairs_none i (zero ∷ partners) z = pairs_none (suc i) partners (λ k. z (suc k))
pairs_none i (suc j ∷ partners) z = absurd (omega (arith, z 0))

-- a pair above all others
pub pairs-more : (i : ℕ) (partners : List ℕ) (k a b : ℕ) → a ≡ i + k → 1 ≤ b → k < length partners
    → ((n : ℕ) → k ≤ n → get_or partners n 0 ≡ 0)
    → pair_records i (set partners k b) ≡ pair_records i partners ++ pair a b ∷ []
unfolding pair_records
pairs-more i [] k a b e p fits z = absurd (omega arith)
pairs-more i (suc x ∷ partners) zero a b e p fits z = absurd (omega (arith, z 0 (omega arith)))
pairs-more i (zero ∷ partners) zero a zero e p fits z = absurd (omega arith)
pairs-more i (zero ∷ partners) zero a (suc b) e p fits z =
    let same : a ≡ i = omega arith in
    rw (pairs_none (suc i) partners (λ k. z (suc k) (omega arith)), same)
pairs-more i (zero ∷ partners) (suc k) a b e p fits z =
    pairs-more (suc i) partners k a b (omega arith) p (omega arith) (λ n h. z (suc n) (omega arith))
pairs-more i (suc x ∷ partners) (suc k) a b e p fits z =
    ap (λ (l : List Record). pair i (suc x) ∷ l)
    (pairs-more (suc i) partners k a b (omega arith) p (omega arith) (λ n h. z (suc n) (omega arith)))

-- where a pair rises, neither its left register nor one after it has a partner yet
pub rising_zeros : (partners : List ℕ) (a : ℕ) → rising partners a ≡ true → (k : ℕ) → a - 1 ≤ k → get_or partners k 0 ≡ 0
unfolding rising
rising_zeros partners a h k b = at (get_or partners k 0) refl (dec_lt k (length partners))
  where
    at : (x : ℕ) → get_or partners k 0 ≡ x → Dec (k < length partners) → get_or partners k 0 ≡ 0
    at zero e d = e
    at (suc x) e (no d) =
        let out : length partners ≤ k = omega arith in
        get_or-eq_default partners 0 out
    at (suc x) e (yes d) =
        let n = k - (a - 1) in
        let place : a - 1 + n ≡ k = omega arith in
        let held : get_or (drop (a - 1) partners) n 0 ≡ suc x = get_or-drop (a - 1) partners n 0 ∙ rw place e in
        let within : n < length (drop (a - 1) partners) = rw length-drop (omega arith) in
        let used = any_at (λ x. ltb 0 x) (drop (a - 1) partners) n 0 within (rw held (lt-ltb 0 (suc x) (omega arith))) in
        absurd (not_both _ used (not-true _ h))

pub zeros_rising : (partners : List ℕ) (a : ℕ) → ((k : ℕ) → a - 1 ≤ k → get_or partners k 0 ≡ 0) → rising partners a ≡ true
unfolding rising
zeros_rising partners a z = rw (fails_unless (any (λ x. ltb 0 x) (drop (a - 1) partners)) none)
  where
    none : any (λ x. ltb 0 x) (drop (a - 1) partners) ≡ true → ⊥
    none e =
        let w = any-index (λ x. ltb 0 x) (drop (a - 1) partners) 0 e in
        let used = ltb-true 0 (get_or (drop (a - 1) partners) w.0 0) w.2 in
        omega (arith, get_or-drop (a - 1) partners w.0 0, z (a - 1 + w.0) (omega arith))

-- ── Stages ──

-- the records before a side's model
abbrev pub records_before : Side → Task → List Record
records_before Left t = []
records_before Right t = model_records edge_record t.left

-- the records of a task up to its pairs, and those without its end
abbrev pub paired_records : Task → List Record
paired_records t =
    model_records edge_record t.left ++ model_records edge_record t.right ++ pair_records 1 t.start.partners

abbrev pub unended_records : Task → List Record
unended_records t = paired_records t ++ history_records t

-- the records of what is read at a stage
abbrev pub records_at : Stage → Task → List Record
records_at Start t = []
records_at (States s q) t = records_before s t ++ begun_records q (model_of t s)
records_at (Edges s) t = records_before s t ++ model_records edge_record (model_of t s)
records_at Pairs t = paired_records t
records_at Sized t = unended_records t
records_at Ended t = task_records edge_record (history_records t) t

pub ended_records : (t : Task) → task_records edge_record (history_records t) t ≡ unended_records t ++ end ∷ []
unfolding task_records
ended_records t = refl

-- where no history size is stated, no record says it
pub unstated-records : (t : Task) → t.history_stated ≡ false → unended_records t ≡ paired_records t
unfolding history_records
unstated-records t e = rw (e, append-nil)

-- the model that is being read is exchanged for one with a record more
pub records-more : (s : Side) (t : Task) (m : Model) (f : Model → List Record) (l : List Record) (x : Record) → f m ≡ l ++ x ∷ []
    → records_before s (with_model t s m) ++ f (model_of (with_model t s m) s) ≡ records_before s t ++ l ++ x ∷ []
records-more Left t m f l x e = e
records-more Right t m f l x e = rw e (sym (append_assoc (model_records edge_record t.left) l (x ∷ [])))
