-- What the reader does with a record is right: it refuses it by the first rule that it breaks, and else says what the records
-- say. Assumes nothing.
use Prim.Native.Nat.{ℕ, suc, ◌+◌, ◌-◌, ◌≤◌}
use mathlib.Core.Path.{◌≡◌, refl, sym, ap, subst}
use mathlib.Core.Logic.{inl, inr}
use mathlib.Core.Bool.{Bool, true, false, cond}
use mathlib.Core.List.Memᴰ
use mathlib.Core.List.{List, [], ◌∷◌}
use native.Mathlib.Omega.{arith}
use lib.ListN.{set}
use lib.Dec.{eqb}
use borrow.Author.Tests.{eqb-true, eqb-false}
use Rattle.fra.specs.Lists.{◌∈◌}
use Rattle.fra.specs.Rules.{model_of}
use Rattle.fra.specs.declared.Model.{Model}
use Rattle.fra.specs.declared.Task.{Task}
use Rattle.fra.specs.declared.Side.{Side}
use Rattle.fra.specs.declared.Side.TheVariants.{Left, Right}
use Rattle.task.specs.Records.{Record, header, state, edge, pair, history, end, headers, earlier, registers, states, start, states_read, edges_read, last_edge, set_in, Complete, NoHistory, NoEnd, Allowed}
use Rattle.task.specs.TaskFile
use Rattle.task.specs.TaskFile.{max_registers, with_model, headed, with_header, with_state, with_pair, with_history, after_state, header_at, state_at, edge_at, pair_at, history_at, end_at, header_refusal, state_refusal, edge_refusal, pair_refusal, history_refusal}
use Rattle.task.specs.declared.Stage.{Stage}
use Rattle.task.specs.declared.Stage.TheVariants.{Start, States, Edges, Pairs, Sized, Ended}
use Rattle.task.specs.declared.Progress.{Progress}
use Rattle.task.specs.declared.Refusal.{Refusal}
use Rattle.task.specs.declared.Refusal.TheVariants.{Misplaced}
use Rattle.std.specs.Prelude.{Result, Ok, Err}
use Rattle.fra_laws.proofs.Tests.{clash}
use Rattle.task_laws.proofs.RunsAndHalts.{step_at, decided, decided_passes}
use Rattle.task_laws.proofs.Checks.{header-fits, state-fits, edge-fits, PairFits, pair_fits}
use Rattle.task_laws.proofs.ReadValid.{Finished, pair-places, SoundAt, unpaired_finished, model_of-with_model}
use Rattle.task_laws.proofs.Ties.{Written, Paired, written-headed, written-with_state, written-with_edge, paired_none, paired-other, paired-set, headers_of, ModelsOnly, AfterSize, TiedAt, Tied, not_more, only_more, shape, Beside, Says}
use Rattle.task_laws.proofs.HeldAtStart.{held_said}
use Rattle.task_laws.proofs.Judging.{Judged, obeys, breaks, misplaced, header-judged, state-judged, edge-judged, rising_above, pair-judged, history-judged, end-judged}

-- ── What is correct ──

-- what a record does is correct: its refusal, and if there is none, the progress after it
pub record Correct (l : List Record) (x : Record) (r : Result Progress Refusal) : Type 0 where
  pub judged : Judged l x r
  pub tied : {after : Progress} → r ≡ Ok after → Tied (x ∷ l) after

-- a record that is not allowed at its place
out_of-place : {l : List Record} {x : Record} → (Allowed l x → ⊥) → Correct l x (Err Misplaced)
out_of-place {l} {x} out = record { judged = misplaced l x out; tied = λ e. clash (cc) }

-- a record whose check gives c
checked : {l : List Record} {x : Record} (c : Result (Unit {0}) Refusal) (after : Progress) → Judged l x c
    → (c ≡ Ok tt → Tied (x ∷ l) after)
    → Correct l x (decided c after)
checked {l} {x} c after h t =
    record { judged = judged h; tied = λ e. decided_passes (Tied (x ∷ l)) c after e t }
  where
    judged : Judged l x c → Judged l x (decided c after)
    judged (obeys a e all) = obeys after (rw e) all
    judged (breaks rule e b first) = breaks rule (rw e) b first

-- ── Each record in its place ──

-- before a side's header
abbrev Before : Side → List Record → Task → Type 0
Before Left l t = Unit {0}
Before Right l t = Written l t.left

some-header : (s : Side) → 1 ≤ headers_of s
some-header Left = omega arith
some-header Right = omega arith

header_correct : (s : Side) (l : List Record) (p : Progress) (r n q : ℕ) → Allowed l (header r n q)
    → suc (headers l) ≡ headers_of s → ModelsOnly l → Before s l p.task
    → Correct l (header r n q) (header_at s p (r ∷ n ∷ q ∷ []))
unfolding header_at with_header headers states_read states earlier
header_correct s l p r n q allowed count only before =
    checked (header_refusal r n q) _ (header-judged l r n q allowed)
    (λ z.
    let f = header-fits r n q z in
    record {
      at_stage = record { side = count; read = refl; due = omega arith; only = still_only };
      says = says s before;
    })
  where
    still_only : ModelsOnly (header r n q ∷ l)
    still_only = only_more (omega arith) only

    says : (s : Side) → Before s l p.task → Says s (header r n q ∷ l) (with_header p.task s (headed r n q))
    says Left before = record { model = written-headed l r n q; beside = tt }
    says Right before =
        record {
          model = written-headed l r n q;
          beside = record { left = before; paired = paired_none (header r n q ∷ l) max_registers still_only.no_pair };
        }

-- a record of the model that is being read leaves what is beside it
beside_more : (s : Side) (l : List Record) (t : Task) (m : Model) (x : Record) → earlier (x ∷ l) ≡ earlier l
    → (shape x ≡ 4 → ⊥) → Beside s l t
    → Beside s (x ∷ l) (with_model t s m)
beside_more Left l t m x e other h = tt
beside_more Right l t m x e other h = record { left = rw e h.left; paired = paired-other x other h.paired }

state_correct : (s : Side) (q : ℕ) (p : Progress) (l : List Record) (n set mark : ℕ) → SoundAt (States s q) p.task
    → TiedAt (States s q) l p.task
    → Correct l (state n set mark) (state_at s q p (n ∷ set ∷ mark ∷ []))
unfolding state_at after_state with_state Allowed headers states_read states earlier
state_correct s q p l n set mark h t =
    checked (state_refusal m q n set mark) _
    (state-judged l m q n set mark t.at_stage.read t.says.model.registers (omega arith))
    (λ z. after (eqb (q + 1) m.state_count) refl (state-fits m q n set mark z).number_due)
  where
    m : Model
    m = model_of p.task s

    only : ModelsOnly (state n set mark ∷ l)
    only = only_more (omega arith) t.at_stage.only

    says : n ≡ q → Says s (state n set mark ∷ l) (with_model p.task s (with_state m q set mark))
    says due =
        record {
          model = rw model_of-with_model (written-with_state l q n set mark (omega arith) due t.says.model);
          beside = beside_more s l p.task (with_state m q set mark) (state n set mark) refl (λ e. omega arith) t.says.beside;
        }

    after : (b : Bool) → eqb (q + 1) m.state_count ≡ b → n ≡ q
        → TiedAt (cond b (Edges s) (States s (q + 1))) (state n set mark ∷ l) (with_model p.task s (with_state m q set mark))
    after true d due =
        let last = eqb-true (q + 1) m.state_count d in
        record {
          at_stage =
              record { side = t.at_stage.side; complete = omega (arith, t.says.model.states); only = only };
          says = says due;
        }
    after false d due =
        let more = eqb-false (q + 1) m.state_count d in
        record {
          at_stage =
              record {
                side = t.at_stage.side;
                read = omega arith;
                due = omega (arith, t.says.model.states);
                only = only;
              };
          says = says due;
        }

edge_correct : (s : Side) (p : Progress) (l : List Record) (from tag kind i to : ℕ) → SoundAt (Edges s) p.task
    → TiedAt (Edges s) l p.task
    → Correct l (edge from tag kind i to) (edge_at s p (from ∷ tag ∷ kind ∷ i ∷ to ∷ []))
unfolding edge_at Allowed headers states_read states earlier
edge_correct s p l from tag kind i to h t =
    let at = t.at_stage in
    checked (edge_refusal m (from ∷ tag ∷ kind ∷ i ∷ to ∷ [])) _
    (edge-judged l m from tag kind i to t.says.model h.model
    (omega (arith, some-header s), at.complete, at.only.no_pair, at.only.no_history, at.only.no_end))
    (λ z.
    let f = edge-fits m from tag kind i to z in
    record {
      at_stage =
          record { side = at.side; complete = at.complete; only = only_more (omega arith) at.only };
      says =
          record {
            model =
                rw model_of-with_model
                (written-with_edge l from tag kind i to (omega (arith, f.room, h.model.writable.edge_array)) f.exists.kind-exists
                t.says.model);
            beside = beside_more s l p.task _ (edge from tag kind i to) refl (λ e. omega arith) t.says.beside;
          };
    })
  where
    m : Model
    m = model_of p.task s

pair_correct : (p : Progress) (l : List Record) (a b : ℕ) → Finished p.task → Allowed l (pair a b) → Says Right l p.task
    → Correct l (pair a b) (pair_at p (a ∷ b ∷ []))
unfolding pair_at with_pair Allowed headers states_read states earlier registers start edges_read set_in last_edge
pair_correct p l a b h allowed t =
    checked (pair_refusal p.task a b) _
    (pair-judged l p.task a b t.beside.left t.model t.beside.paired allowed)
    (λ z.
    record {
      at_stage =
          record {
            side = allowed.0;
            complete = allowed.1;
            some_pair = (a, b, Memᴰ.head refl);
            no_history = λ n. not_more (λ e. omega arith) (allowed.2 n);
            no_end = not_more (λ e. omega arith) allowed.3;
          };
      says =
          record {
            model = t.model;
            beside = record { left = t.beside.left; paired = paired (pair_fits p.task a b z) };
          };
    })
  where
    partners : List ℕ
    partners = p.task.start.partners

    paired : PairFits p.task a b → Paired (pair a b ∷ l) (set partners (a - 1) b)
    paired f =
        let w = pair-places h f in
        paired-set a b w.0 w.1 w.2
        (λ i j m. let old = t.beside.paired.joined i j m in rising_above partners a i j f.rises old.1 old.0)
        t.beside.paired

history_correct : (p : Progress) (l : List Record) (n : ℕ) → Finished p.task → Allowed l (history n) → Says Right l p.task
    → Correct l (history n) (history_at p (n ∷ []))
unfolding history_at with_history Allowed headers states_read states earlier registers start edges_read set_in last_edge
history_correct p l n h allowed t =
    checked (history_refusal p.task n) _
    (history-judged l p.task n (held_said h t.beside.left t.model t.beside.paired) allowed)
    (λ z.
    record {
      at_stage =
          record {
            side = allowed.0;
            complete = allowed.1;
            some-history = (n, Memᴰ.head refl);
            no_end = not_more (λ e. omega arith) allowed.3;
          };
      says =
          record {
            model = t.model;
            beside =
                record { left = t.beside.left; paired = paired-other (history n) (λ d. omega arith) t.beside.paired };
          };
    })

end_correct : (p : Progress) (l : List Record) → Allowed l end → Says Right l p.task → Correct l end (end_at p)
unfolding end_at Allowed headers states_read states earlier registers start edges_read set_in last_edge
end_correct p l allowed t =
    checked (Ok tt) _ (end-judged l allowed)
    (λ z.
    record {
      at_stage = record { side = allowed.0; complete = allowed.1; last = (l, refl) };
      says =
          record {
            model = t.model;
            beside = record { left = t.beside.left; paired = paired-other end (λ d. omega arith) t.beside.paired };
          };
    })

-- ── Each record at each stage ──

-- a header after others
late_header : {l : List Record} {r n q : ℕ} → 1 ≤ headers l → (headers l ≡ 1 → Complete l → ⊥)
    → Correct l (header r n q) (Err Misplaced)
unfolding Allowed headers
late_header {l} {r} {n} {q} later other = out_of-place at
  where
    at : Allowed l (header r n q) → ⊥
    at (inl e) = omega (arith, ap headers e)
    at (inr h) = other h.0 h.1

-- before all records
nothing_read : {l : List Record} → l ≡ [] → ModelsOnly l
nothing_read e =
    record {
      no_pair = λ a b m. Memᴰ.not-nil (rw e at m);
      no_history = λ n m. Memᴰ.not-nil (rw e at m);
      no_end = λ m. Memᴰ.not-nil (rw e at m);
    }

-- once the history's size is read there is a record of it
after-size : {l : List Record} → AfterSize l → NoHistory l → ⊥
after-size h no_history = let w = h.some-history in no_history w.0 w.1

-- once the end is the latest record there is an end
pub after-end : {l k : List Record} → l ≡ end ∷ k → NoEnd l → ⊥
after-end {l} {k} e no_end = no_end (subst (λ (j : List Record). end ∈ j) (sym e) (Memᴰ.head refl))

pub step_correct : (x : Record) (stage : Stage) (p : Progress) (l : List Record) → SoundAt stage p.task → TiedAt stage l p.task
    → Correct l x (step_at x stage p)
unfolding TaskFile.header TaskFile.state TaskFile.edge TaskFile.pair TaskFile.history TaskFile.end Allowed headers states
step_correct (header r n q) Start p l h t =
    header_correct Left l p r n q (inl t.at_stage) (omega (arith, ap headers t.at_stage)) (nothing_read t.at_stage) tt
step_correct (header r n q) (States s k) p l h t = late_header (omega (arith, some-header s)) (λ one c. omega arith)
step_correct (header r n q) (Edges Left) p l h t =
    header_correct Right l p r n q (inr (t.at_stage.side, t.at_stage.complete)) (omega arith) t.at_stage.only
    t.says.model
step_correct (header r n q) (Edges Right) p l h t = late_header (omega arith) (λ one c. omega arith)
step_correct (header r n q) Pairs p l h t = late_header (omega arith) (λ one c. omega arith)
step_correct (header r n q) Sized p l h t = late_header (omega arith) (λ one c. omega arith)
step_correct (header r n q) Ended p l h t = late_header (omega arith) (λ one c. omega arith)
step_correct (state n set mark) Start p l h t = out_of-place (λ a. omega (arith, a, ap states t.at_stage))
step_correct (state n set mark) (States s q) p l h t = state_correct s q p l n set mark h t
step_correct (state n set mark) (Edges s) p l h t = out_of-place (λ a. omega (arith, a))
step_correct (state n set mark) Pairs p l h t = out_of-place (λ a. omega (arith, a))
step_correct (state n set mark) Sized p l h t = out_of-place (λ a. omega (arith, a))
step_correct (state n set mark) Ended p l h t = out_of-place (λ a. omega (arith, a))
step_correct (edge from tag kind i to) Start p l h t = out_of-place (λ a. omega (arith, a.0, ap headers t.at_stage))
step_correct (edge from tag kind i to) (States s q) p l h t = out_of-place (λ a. omega (arith, a.1))
step_correct (edge from tag kind i to) (Edges s) p l h t = edge_correct s p l from tag kind i to h t
step_correct (edge from tag kind i to) Pairs p l h t = out_of-place (λ a. let w = t.at_stage.some_pair in a.2 w.0 w.1 w.2)
step_correct (edge from tag kind i to) Sized p l h t = out_of-place (λ a. after-size t.at_stage a.3)
step_correct (edge from tag kind i to) Ended p l h t = out_of-place (λ a. after-end t.at_stage.last.1 a.4)
step_correct (pair a b) Start p l h t = out_of-place (λ a. omega (arith, a.0, ap headers t.at_stage))
step_correct (pair a b) (States s q) p l h t = out_of-place (λ a. omega (arith, a.1))
step_correct (pair a b) (Edges Left) p l h t = out_of-place (λ a. omega (arith, a.0))
step_correct (pair a b) (Edges Right) p l h t =
    let at = t.at_stage in
    pair_correct p l a b (unpaired_finished h) (at.side, at.complete, at.only.no_history, at.only.no_end) t.says
step_correct (pair a b) Pairs p l h t =
    let at = t.at_stage in
    pair_correct p l a b h.finished (at.side, at.complete, at.no_history, at.no_end) t.says
step_correct (pair a b) Sized p l h t = out_of-place (λ a. after-size t.at_stage a.2)
step_correct (pair a b) Ended p l h t = out_of-place (λ a. after-end t.at_stage.last.1 a.3)
step_correct (history n) Start p l h t = out_of-place (λ a. omega (arith, a.0, ap headers t.at_stage))
step_correct (history n) (States s q) p l h t = out_of-place (λ a. omega (arith, a.1))
step_correct (history n) (Edges Left) p l h t = out_of-place (λ a. omega (arith, a.0))
step_correct (history n) (Edges Right) p l h t =
    let at = t.at_stage in
    history_correct p l n (unpaired_finished h) (at.side, at.complete, at.only.no_history, at.only.no_end) t.says
step_correct (history n) Pairs p l h t =
    let at = t.at_stage in
    history_correct p l n h.finished (at.side, at.complete, at.no_history, at.no_end) t.says
step_correct (history n) Sized p l h t = out_of-place (λ a. after-size t.at_stage a.2)
step_correct (history n) Ended p l h t = out_of-place (λ a. after-end t.at_stage.last.1 a.3)
step_correct end Start p l h t = out_of-place (λ a. omega (arith, a.0, ap headers t.at_stage))
step_correct end (States s q) p l h t = out_of-place (λ a. omega (arith, a.1))
step_correct end (Edges Left) p l h t = out_of-place (λ a. omega (arith, a.0))
step_correct end (Edges Right) p l h t =
    end_correct p l (t.at_stage.side, t.at_stage.complete, t.at_stage.only.no_end) t.says
step_correct end Pairs p l h t = end_correct p l (t.at_stage.side, t.at_stage.complete, t.at_stage.no_end) t.says
step_correct end Sized p l h t = end_correct p l (t.at_stage.side, t.at_stage.complete, t.at_stage.no_end) t.says
step_correct end Ended p l h t = out_of-place (λ a. after-end t.at_stage.last.1 a.2)
