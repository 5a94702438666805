-- A task that is read is one that a file can hold, and the file is its bytes: each record that is not refused keeps what is
-- read so far sound, and is added to its records. Assumes nothing.
use Prim.Native.Nat.{ℕ, zero, suc, ◌+◌, ◌-◌, ◌≤◌, ◌<◌}
use mathlib.Core.Path.{◌≡◌, refl, sym, ◌∙◌, ap, subst}
use mathlib.Core.Logic.{◌⊎◌, inl, inr}
use mathlib.Core.Bool.{Bool, true, false, not, cond, ◌&&◌, ◌||◌, true≢false}
use mathlib.Core.List.{List, [], ◌∷◌, ◌++◌, flat_map, append-nil, append_assoc}
use native.Mathlib.Numerals.{add-one}
use native.Mathlib.Omega.{arith}
use lib.ListN.{length, set, replicate, length-set, length-replicate}
use lib.Dec.{eqb}
use borrow.Author.Tests.{eqb-true, eqb-false, ne_eqb, not-true}
use Rattle.fra.specs.Lists.{any, count}
use Rattle.fra.specs.Registers.{has}
use Rattle.fra.specs.Model.{set_of, edge_of}
use Rattle.fra.specs.Rules.{model_of}
use Rattle.fra.specs.Position.{unmatched, state_of, filled, matching, most_seen}
use Rattle.fra.specs.Valid.{Valid}
use Rattle.fra.specs.declared.Model.{Model}
use Rattle.fra.specs.declared.Position.{Position}
use Rattle.fra.specs.declared.Task.{Task}
use Rattle.fra.specs.declared.Side.{Side}
use Rattle.fra.specs.declared.Side.TheVariants.{Left, Right}
use Rattle.task.specs.Records.{Record, header, state, edge, pair, history, end, encode}
use Rattle.task.specs.TaskFile
use Rattle.task.specs.TaskFile.{max_registers, max_states, tag_count, max_edges, with_model, headed, with_header, with_state, edge_of_body, with_edge, with_pair, with_history, after_state, header_at, state_at, edge_at, pair_at, history_at, end_at, header_refusal, state_refusal, edge_refusal, pair_refusal, history_refusal, no_task, at_start, read_task}
use Rattle.task.specs.TaskBytes.{edge_record, model_records, pair_records, history_records, encode_task, Writable}
use Rattle.task.specs.declared.Stage.{Stage}
use Rattle.task.specs.declared.Stage.TheVariants.{Start, States, Edges, Pairs, Sized, Ended}
use Rattle.task.specs.declared.Progress.{Progress}
use Rattle.std.specs.Prelude.{Ok}
use Rattle.fra_laws.proofs.Tests.{clash, and_left, and_right, and_intro, or_cases, or_left, or_right, or_false_left, or_false_right, or_false_intro}
use Rattle.fra_laws.proofs.Registers.{has_positive, matching_facts}
use Rattle.fra_laws.proofs.HeldNumbers.{held-most}
use Rattle.fra_laws.proofs.Legal.{legal_intro}
use Rattle.fra_laws.proofs.StringsInARow.{flat_map-append}
use Rattle.task_laws.proofs.Arrays.{get_d_replicate_default}
use Rattle.task_laws.proofs.RunsAndHalts.{step_at, decided_passes, Run, begin, onward, read_halt}
use Rattle.task_laws.proofs.Checks.{header-fits, state-fits, edge-fits, PairFits, pair_fits, HistoryFits, history-fits}
use Rattle.task_laws.proofs.Models.{edge_record-read, Begun, Whole, begun-headed, begun-with_state, begun-whole, whole-with_edge}
use Rattle.task_laws.proofs.RecordsRead.{begun_records, begun_more, begun_all, edges_more, pairs_none, pairs-more, rising_zeros, records_before, paired_records, records_at, ended_records, unstated-records, records-more}

-- ── The matching of the start ──

any-set : {A : Type 0} (f : A → Bool) (l : List A) (k : ℕ) (v : A) → any f l ≡ false → f v ≡ false → any f (set l k v) ≡ false
unfolding any
any-set f [] k v h e = h
any-set f (x ∷ l) zero v h e = or_false_intro (f v) (any f l) e (or_false_right (f x) (any f l) h)
any-set f (x ∷ l) (suc k) v h e =
    or_false_intro (f x) (any f (set l k v)) (or_false_left (f x) (any f l) h)
    (any-set f l k v (or_false_right (f x) (any f l) h) e)

-- no pair is a matching
matching-empty : (left right i n : ℕ) → matching left right i (replicate n 0) ≡ true
unfolding matching
matching-empty left right i zero = refl
matching-empty left right i (suc n) = matching-empty left right (suc i) n

-- what `matching` asks of left register i and its partner x, with the partners xs after it
abbrev joined : ℕ → ℕ → ℕ → ℕ → List ℕ → Bool
joined left right i x xs = eqb x 0 || (has left i && has right x && not (any (eqb x) xs))

-- a matching stays one with a pair more, if its right register is not used yet
matching-set : (left right i : ℕ) (partners : List ℕ) (k a b : ℕ) → a ≡ i + k → has left a ≡ true → has right b ≡ true
    → any (eqb b) partners ≡ false → matching left right i partners ≡ true
    → matching left right i (set partners k b) ≡ true
unfolding matching any
matching-set left right i [] k a b e l r unused h = h
matching-set left right i (x ∷ xs) zero a b e l r unused h =
    let same : a ≡ i = omega arith in
    and_intro (joined left right i b xs) _
    (or_right (eqb b 0) _ (rw (rw same at l, r, or_false_right (eqb b x) (any (eqb b) xs) unused)))
    (and_right (joined left right i x xs) _ h)
matching-set left right i (x ∷ xs) (suc k) a b e l r unused h =
    and_intro (joined left right i x (set xs k b)) _ (at (or_cases (eqb x 0) _ (and_left (joined left right i x xs) _ h)))
    (matching-set left right (suc i) xs k a b (omega arith) l r (or_false_right (eqb b x) (any (eqb b) xs) unused)
    (and_right (joined left right i x xs) _ h))
  where
    at : (eqb x 0 ≡ true) ⊎ ((has left i && has right x && not (any (eqb x) xs)) ≡ true)
        → joined left right i x (set xs k b) ≡ true
    at (inl d) = or_left (eqb x 0) _ d
    at (inr d) =
        let free = not-true (any (eqb x) xs) (and_right (has left i && has right x) (not (any (eqb x) xs)) d) in
        let other = ne_eqb x b (λ q. eqb-false b x (or_false_left (eqb b x) (any (eqb b) xs) unused) (sym q)) in
        or_right (eqb x 0) _ (rw (any-set (eqb x) xs k b free other) (rw free at d))

-- ── Finished tasks ──

-- both models are whole, and the start has their start states and a matching
pub record Finished (t : Task) : Type 0 where
  pub left : Whole t.left
  pub right : Whole t.right
  pub start_left : t.start.left ≡ t.left.start
  pub start_right : t.start.right ≡ t.right.start
  pub partner_array : length t.start.partners ≡ max_registers
  pub matched : matching (set_of t.left t.left.start) (set_of t.right t.right.start) 1 t.start.partners ≡ true

-- no history size is stated, so it is the greatest
pub record Unsized (t : Task) : Type 0 where
  pub finished : Finished t
  pub unstated : t.history_stated ≡ false
  pub greatest : t.start.history ≡ most_seen max_registers

-- the history size is settled, whether it is stated or not
pub record Settled (t : Task) : Type 0 where
  pub finished : Finished t
  pub fits : HistoryFits t t.start.history
  pub unstated : t.history_stated ≡ false → t.start.history ≡ most_seen max_registers

-- two readers hold fewer numbers than the greatest history has
unsized_settled : {t : Task} → Unsized t → Settled t
unsized_settled {t} h =
    let held = held-most (filled t t.start Left) (filled t t.start Right) t.start.partners in
    let long = h.finished.partner_array in
    record {
      finished = h.finished;
      fits = record { least = omega arith; most = omega arith };
      unstated = λ e. h.greatest;
    }

settled_writable : {t : Task} → Settled t → Writable t
settled_writable {t} h =
    record {
      valid = record {
        left = f.left.valid;
        right = f.right.valid;
        start_left = f.start_left;
        start_right = f.start_right;
        start-legal =
            legal_intro max_registers t t.start
            (record {
              exists = exists;
              long = f.partner_array;
              matches =
                  matching_facts (filled t t.start Left) (filled t t.start Right) t.start.partners
                  (rw (f.start_left, f.start_right) f.matched);
              least = h.fits.least;
              most = h.fits.most;
            });
        unstated = h.unstated;
      };
      left = f.left.writable;
      right = f.right.writable;
    }
  where
    f : Finished t
    f = h.finished

    exists : (s : Side) → state_of t.start s < (model_of t s).state_count
    exists Left = rw f.start_left f.left.valid.start
    exists Right = rw f.start_right f.right.valid.start

-- the registers of a pair that is read have their places
pub pair-places : {t : Task} {a b : ℕ} → Finished t → PairFits t a b
    → (1 ≤ a) × (a ≤ length t.start.partners) × (1 ≤ b)
pair-places {t} {a} {b} h f = (
  has_positive (set_of t.left t.left.start) a f.left,
  omega (
    arith,
    (h.left.valid.states t.left.start h.left.valid.start).existing a f.left,
    h.left.valid.registers,
    h.partner_array,
  ),
  has_positive (set_of t.right t.right.start) b f.right,
)

finished_with_pair : {t : Task} {l r : ℕ} → Finished t → PairFits t l r → Finished (with_pair t l r)
unfolding with_pair
finished_with_pair {t} {l} {r} h f =
    record {
      left = h.left;
      right = h.right;
      start_left = h.start_left;
      start_right = h.start_right;
      partner_array = length-set t.start.partners (l - 1) r ∙ h.partner_array;
      matched =
          matching-set (set_of t.left t.left.start) (set_of t.right t.right.start) 1 t.start.partners (l - 1) l r
          (omega (arith, has_positive (set_of t.left t.left.start) l f.left)) f.left f.right f.unused h.matched;
    }

unsized-with_pair : {t : Task} {l r : ℕ} → Unsized t → PairFits t l r → Unsized (with_pair t l r)
unfolding with_pair
unsized-with_pair h f =
    record { finished = finished_with_pair h.finished f; unstated = h.unstated; greatest = h.greatest }

settled_with_history : {t : Task} {size : ℕ} → Finished t → HistoryFits t size → Settled (with_history t size)
unfolding with_history
settled_with_history h f =
    record {
      finished = record {
        left = h.left;
        right = h.right;
        start_left = h.start_left;
        start_right = h.start_right;
        partner_array = h.partner_array;
        matched = h.matched;
      };
      fits = record { least = f.least; most = f.most };
      unstated = λ e. absurd (true≢false e);
    }

-- ── What is sound at each stage ──

-- while the right model is read: the left one is whole, and the start has no pairs
pub record Unpaired (t : Task) : Type 0 where
  pub left : Whole t.left
  pub start : t.start ≡ unmatched max_registers t.left.start t.right.start

-- beside the model that is being read
abbrev pub Beside : Side → Task → Type 0
Beside Left t = Unit {0}
Beside Right t = Unpaired t

-- state q of a side is due
pub record InStates (s : Side) (q : ℕ) (t : Task) : Type 0 where
  pub due : q < (model_of t s).state_count
  pub model : Begun q (model_of t s)
  pub beside : Beside s t
  pub unstated : t.history_stated ≡ false

-- the states of a side are read
pub record InEdges (s : Side) (t : Task) : Type 0 where
  pub model : Whole (model_of t s)
  pub beside : Beside s t
  pub unstated : t.history_stated ≡ false

abbrev pub SoundAt : Stage → Task → Type 0
SoundAt Start t = t.history_stated ≡ false
SoundAt (States s q) t = InStates s q t
SoundAt (Edges s) t = InEdges s t
SoundAt Pairs t = Unsized t
SoundAt Sized t = Settled t
SoundAt Ended t = Settled t

abbrev pub Sound : Progress → Type 0
Sound p = SoundAt p.stage p.task

-- after the right model's edges a task is finished, without a pair
pub unpaired_finished : {t : Task} → InEdges Right t → Finished t
unpaired_finished {t} h =
    record {
      left = h.beside.left;
      right = h.model;
      start_left = ap (λ (p : Position). p.left) h.beside.start;
      start_right = ap (λ (p : Position). p.right) h.beside.start;
      partner_array = rw h.beside.start (length-replicate {A = ℕ} max_registers 0);
      matched =
          rw h.beside.start
          (matching-empty (set_of t.left t.left.start) (set_of t.right t.right.start) 1 max_registers);
    }

unpaired_unsized : {t : Task} → InEdges Right t → Unsized t
unpaired_unsized h =
    record {
      finished = unpaired_finished h;
      unstated = h.unstated;
      greatest = ap (λ (p : Position). p.history) h.beside.start;
    }

-- a progress is sound, and these are the records of what is read
record Reading (l : List Record) (p : Progress) : Type 0 where
  sound : Sound p
  exact : records_at p.stage p.task ≡ l

-- without a pair no record follows the right model's
unpaired_records : {t : Task} → InEdges Right t → records_at Pairs t ≡ records_at (Edges Right) t
unpaired_records {t} h =
    rw (pairs_none 1 t.start.partners (λ k. rw h.beside.start (get_d_replicate_default {A = ℕ} max_registers k 0)), append-nil)

-- ── Each record that is not refused keeps it ──

-- the model that is being read is exchanged for one with the same start
beside_kept : (s : Side) (t : Task) (m : Model) → m.start ≡ (model_of t s).start → Beside s t → Beside s (with_model t s m)
beside_kept Left t m e h = tt
beside_kept Right t m e h = record { left = h.left; start = rw e h.start }

stated_kept : (s : Side) (t : Task) (m : Model) → (with_model t s m).history_stated ≡ t.history_stated
stated_kept Left t m = refl
stated_kept Right t m = refl

pub model_of-with_model : (t : Task) (s : Side) (m : Model) → model_of (with_model t s m) s ≡ m
model_of-with_model t Left m = refl
model_of-with_model t Right m = refl

-- before a side's header
abbrev Before : Side → Task → Type 0
Before Left t = Unit {0}
Before Right t = Whole t.left

header-sound : (s : Side) (p : Progress) {now : Progress} (r n q : ℕ) → Before s p.task → p.task.history_stated ≡ false
    → header_at s p (r ∷ n ∷ q ∷ []) ≡ Ok now
    → Reading (records_before s p.task ++ header r n q ∷ []) now
unfolding header_at headed with_header count
header-sound Left p r n q h unstated e =
    decided_passes (Reading _) (header_refusal r n q) _ e
    (λ z.
    let f = header-fits r n q z in
    record {
      sound = record { due = omega arith; model = begun-headed f; beside = tt; unstated = unstated };
      exact = refl;
    })
header-sound Right p r n q h unstated e =
    decided_passes (Reading _) (header_refusal r n q) _ e
    (λ z.
    let f = header-fits r n q z in
    record {
      sound = record {
        due = omega arith;
        model = begun-headed f;
        beside = record { left = h; start = refl };
        unstated = unstated;
      };
      exact = refl;
    })

state-sound : (s : Side) (q : ℕ) (p : Progress) {now : Progress} (n set mark : ℕ) → SoundAt (States s q) p.task
    → state_at s q p (n ∷ set ∷ mark ∷ []) ≡ Ok now
    → Reading (records_at (States s q) p.task ++ state n set mark ∷ []) now
unfolding state_at after_state with_state
state-sound s q p n set mark h e =
    decided_passes (Reading _) (state_refusal (model_of p.task s) q n set mark) _ e
    (λ z.
    let f = state-fits (model_of p.task s) q n set mark z in
    after (eqb (q + 1) (model_of p.task s).state_count) refl f.number_due (begun-with_state h.due h.model f))
  where
    m : Model
    m = with_state (model_of p.task s) q set mark

    beside : Beside s (with_model p.task s m)
    beside = beside_kept s p.task m refl h.beside

    unstated : (with_model p.task s m).history_stated ≡ false
    unstated = stated_kept s p.task m ∙ h.unstated

    more : n ≡ q → begun_records (q + 1) m ≡ begun_records q (model_of p.task s) ++ state n set mark ∷ []
    more due = rw due (begun_more (model_of p.task s) q set mark (omega (arith, h.due, h.model)))

    after : (t : Bool) → eqb (q + 1) m.state_count ≡ t → n ≡ q → Begun (suc q) m
        → Reading (records_at (States s q) p.task ++ state n set mark ∷ [])
        (record { stage = cond t (Edges s) (States s (q + 1)); task = with_model p.task s m })
    after true d due b =
        let last = eqb-true (q + 1) m.state_count d in
        record {
          sound = record { model = rw model_of-with_model (begun-whole b (omega arith)); beside = beside; unstated = unstated };
          exact =
              records-more s p.task m (model_records edge_record) _ _
              (begun_all m h.model.no_edges ∙ ap (λ (k : ℕ). begun_records k m) (sym last) ∙ more due);
        }
    after false d due b =
        record {
          sound = record {
            due = rw model_of-with_model (omega (arith, h.due, eqb-false (q + 1) m.state_count d));
            model = rw (model_of-with_model, add-one) b;
            beside = beside;
            unstated = unstated;
          };
          exact = records-more s p.task m (begun_records (q + 1)) _ _ (more due);
        }

edge-sound : (s : Side) (p : Progress) {now : Progress} (from tag kind i to : ℕ) → SoundAt (Edges s) p.task
    → edge_at s p (from ∷ tag ∷ kind ∷ i ∷ to ∷ []) ≡ Ok now
    → Reading (records_at (Edges s) p.task ++ edge from tag kind i to ∷ []) now
unfolding edge_at with_edge
edge-sound s p from tag kind i to h e =
    decided_passes (Reading _) (edge_refusal (model_of p.task s) (from ∷ tag ∷ kind ∷ i ∷ to ∷ [])) _ e
    (λ z.
    let f = edge-fits (model_of p.task s) from tag kind i to z in
    record {
      sound = record {
        model = rw model_of-with_model (whole-with_edge h.model f);
        beside = beside_kept s p.task (with_edge (model_of p.task s) _) refl h.beside;
        unstated = stated_kept s p.task (with_edge m _) ∙ h.unstated;
      };
      exact =
          records-more s p.task (with_edge m (edge_of_body (from ∷ tag ∷ kind ∷ i ∷ to ∷ []))) (model_records edge_record) _ _
          (rw (← edge_record-read m.edge_count from tag kind i to f.exists.kind-exists)
          (edges_more m (edge_of_body (from ∷ tag ∷ kind ∷ i ∷ to ∷ [])) (omega (arith, f.room, h.model.writable))));
    })
  where
    m : Model
    m = model_of p.task s

pair-sound : (p : Progress) {now : Progress} (a b : ℕ) → Unsized p.task → pair_at p (a ∷ b ∷ []) ≡ Ok now
    → Reading (paired_records p.task ++ pair a b ∷ []) now
unfolding pair_at with_pair
pair-sound p a b h e =
    decided_passes (Reading _) (pair_refusal p.task a b) _ e
    (λ z.
    let f = pair_fits p.task a b z in
    let w = pair-places h.finished f in
    record {
      sound = unsized-with_pair h f;
      exact =
          rw (pairs-more 1 partners (a - 1) a b (omega arith) w.2 (omega arith) (rising_zeros partners a f.rises))
          (sym (append_assoc (records_at (Edges Right) p.task) (pair_records 1 partners) (pair a b ∷ [])));
    })
  where
    partners : List ℕ
    partners = p.task.start.partners

history-sound : (p : Progress) {now : Progress} (size : ℕ) → Unsized p.task → history_at p (size ∷ []) ≡ Ok now
    → Reading (paired_records p.task ++ history size ∷ []) now
unfolding history_at with_history history_records
history-sound p size h e =
    decided_passes (Reading _) (history_refusal p.task size) _ e
    (λ z. record { sound = settled_with_history h.finished (history-fits p.task size z); exact = refl })

-- the end record ends what is read
ended-as : (p q : Progress) → end_at p ≡ Ok q → q ≡ record { stage = Ended; task = p.task }
unfolding end_at
ended-as p q e = cc

end-sound : (p : Progress) {now : Progress} → Unsized p.task → end_at p ≡ Ok now
    → Reading (paired_records p.task ++ end ∷ []) now
end-sound p {now} h e =
    rw (ended-as p now e)
    (record {
      sound = unsized_settled h;
      exact = rw (unstated-records p.task h.unstated) at (ended_records p.task);
    })

sound-step : (x : Record) (stage : Stage) (p : Progress) {now : Progress} → SoundAt stage p.task → step_at x stage p ≡ Ok now
    → Reading (records_at stage p.task ++ x ∷ []) now
unfolding TaskFile.header TaskFile.state TaskFile.edge TaskFile.pair TaskFile.history TaskFile.end
sound-step (header r n q) Start p h e = header-sound Left p r n q tt h e
sound-step (header r n q) (States s k) p h e = clash (cc)
sound-step (header r n q) (Edges Left) p h e = header-sound Right p r n q h.model h.unstated e
sound-step (header r n q) (Edges Right) p h e = clash (cc)
sound-step (header r n q) Pairs p h e = clash (cc)
sound-step (header r n q) Sized p h e = clash (cc)
sound-step (header r n q) Ended p h e = clash (cc)
sound-step (state n set mark) Start p h e = clash (cc)
sound-step (state n set mark) (States s q) p h e = state-sound s q p n set mark h e
sound-step (state n set mark) (Edges s) p h e = clash (cc)
sound-step (state n set mark) Pairs p h e = clash (cc)
sound-step (state n set mark) Sized p h e = clash (cc)
sound-step (state n set mark) Ended p h e = clash (cc)
sound-step (edge from tag kind i to) Start p h e = clash (cc)
sound-step (edge from tag kind i to) (States s q) p h e = clash (cc)
sound-step (edge from tag kind i to) (Edges s) p h e = edge-sound s p from tag kind i to h e
sound-step (edge from tag kind i to) Pairs p h e = clash (cc)
sound-step (edge from tag kind i to) Sized p h e = clash (cc)
sound-step (edge from tag kind i to) Ended p h e = clash (cc)
sound-step (pair a b) Start p h e = clash (cc)
sound-step (pair a b) (States s q) p h e = clash (cc)
sound-step (pair a b) (Edges Left) p h e = clash (cc)
sound-step (pair a b) (Edges Right) p h e = rw (unpaired_records h) at (pair-sound p a b (unpaired_unsized h) e)
sound-step (pair a b) Pairs p h e = pair-sound p a b h e
sound-step (pair a b) Sized p h e = clash (cc)
sound-step (pair a b) Ended p h e = clash (cc)
sound-step (history size) Start p h e = clash (cc)
sound-step (history size) (States s q) p h e = clash (cc)
sound-step (history size) (Edges Left) p h e = clash (cc)
sound-step (history size) (Edges Right) p h e = rw (unpaired_records h) at (history-sound p size (unpaired_unsized h) e)
sound-step (history size) Pairs p h e = history-sound p size h e
sound-step (history size) Sized p h e = clash (cc)
sound-step (history size) Ended p h e = clash (cc)
sound-step end Start p h e = clash (cc)
sound-step end (States s q) p h e = clash (cc)
sound-step end (Edges Left) p h e = clash (cc)
sound-step end (Edges Right) p h e = rw (unpaired_records h) at (end-sound p (unpaired_unsized h) e)
sound-step end Pairs p h e = end-sound p h e
sound-step end Sized p {now} h e = rw (ended-as p now e) (record { sound = h; exact = ended_records p.task })
sound-step end Ended p h e = clash (cc)

pub sound_run : {file rest : List ℕ} {p : Progress} → Run file p rest → Sound p
unfolding at_start no_task
sound_run begin = refl
sound_run (onward {p = p} x run e) = (sound-step x p.stage p (sound_run run) e).sound

-- the bytes that are read are those of the records of what is read
exact_run : {file rest : List ℕ} {p : Progress} → Run file p rest
    → file ≡ flat_map encode (records_at p.stage p.task) ++ rest
unfolding at_start flat_map
exact_run begin = refl
exact_run {rest = rest} (onward {p = p} x run e) =
    exact_run run
    ∙ rw ((sound-step x p.stage p (sound_run run) e).exact, flat_map-append encode, append-nil, append_assoc)

-- ── A task that is read is one that a file can hold, and the file is its bytes ──

pub read_writable : (file : List ℕ) {t : Task} → read_task file ≡ Ok t → Writable t
read_writable file e =
    let w = read_halt file e in
    rw w.3 (settled_writable (subst (λ (stage : Stage). SoundAt stage w.0.task) w.2 (sound_run w.1)))

pub read-bytes : (file : List ℕ) {t : Task} → read_task file ≡ Ok t → file ≡ encode_task t
unfolding encode_task
read-bytes file {t} e = let w = read_halt file e in at w.0 w.1 w.2 w.3
  where
    at : (p : Progress) → Run file p [] → p.stage ≡ Ended → t ≡ p.task → file ≡ encode_task t
    at p run stage task = exact_run run ∙ rw (stage, task, append-nil)

pub read-valid : (file : List ℕ) {t : Task} → read_task file ≡ Ok t → Valid max_registers t
read-valid file e = (read_writable file e).valid

-- Its counts keep to 01's limits: with them an edge's number is a byte, and the count of positions fits four bytes.
pub read_limits : (file : List ℕ) {t : Task} → read_task file ≡ Ok t → (s : Side)
    → ((model_of t s).state_count ≤ max_states) × ((model_of t s).edge_count ≤ max_edges)
read_limits file e s = at s (read_writable file e)
  where
    at : (s : Side) {t : Task} → Writable t
        → ((model_of t s).state_count ≤ max_states) × ((model_of t s).edge_count ≤ max_edges)
    at Left w = omega (arith, w.valid.left, w.left)
    at Right w = omega (arith, w.valid.right, w.right)

-- Its tags are 01's: "a tag 0 to 31".
pub read-tags : (file : List ℕ) {t : Task} → read_task file ≡ Ok t → (s : Side) (k : ℕ)
    → k < (model_of t s).edge_count
    → (edge_of (model_of t s) k).tag < tag_count
read-tags file e Left = (read_writable file e).left.tags
read-tags file e Right = (read_writable file e).right.tags
