-- Each refusal in its case and in no other: the reader's answer on any file, told by the file's records. Assumes nothing.
use Prim.Native.Nat.{ℕ, ◌<◌}
use mathlib.Core.Path.{◌≡◌, refl, sym, ◌∙◌, subst}
use mathlib.Core.Logic.{◌↔◌, ◌⊎◌, inl, inr}
use mathlib.Core.List.Memᴰ
use mathlib.Core.List.{List, [], ◌∷◌, ◌++◌}
use native.Mathlib.Omega.{arith}
use lib.ListN.{length}
use Rattle.task.specs.Records.{Record, encode, NoEnd, order, Body, Obeyed, nothing, another, TurnedBack}
use Rattle.task.specs.TaskFile.{at_start, body_length, read_task}
use Rattle.task.specs.Refusals.{number_of}
use Rattle.task.specs.declared.Refusal.{Refusal}
use Rattle.task.specs.declared.Refusal.TheVariants.{UnknownKind, CutShort}
use Rattle.std.specs.Prelude.{Result, Err}
use Rattle.fra.specs.declared.Task.{Task}
use Rattle.task.specs.declared.Stage.{Stage}
use Rattle.task.specs.declared.Stage.TheVariants.{Start, States, Edges, Pairs, Sized, Ended}
use Rattle.task.specs.declared.Progress.{Progress}
use Rattle.task_laws.proofs.RunsAndHalts.{kind-body, body-kind, unknown-kind, step_of, Run, begin, onward, Halt, ended, unended, unknown, cut, broken, halts, halt_decides}
use Rattle.task_laws.proofs.ReadValid.{sound_run}
use Rattle.task_laws.proofs.RefusalNumbers.{number_of_injective}
use Rattle.task_laws.proofs.Ties.{AtStage, Tied}
use Rattle.task_laws.proofs.Judging.{refusal_for, number_of-refusal_for, order_injective, Judged, obeys, breaks}
use Rattle.task_laws.proofs.RecordSteps.{Correct, after-end, step_correct}
use Rattle.fra_laws.proofs.Tests.{clash}

-- ── The records that are read, and those that are obeyed ──

-- a record that the reader comes to
correct_after : {file rest : List ℕ} {p : Progress} {l : List Record} (x : Record) → Run file p rest → Tied l p
    → Correct l x (step_of x p)
correct_after {p = p} {l = l} x run t = step_correct x p.stage p l (sound_run run) t

-- every record that the reader passes is obeyed
run_obeyed : {file rest : List ℕ} {p : Progress} → Run file p rest → (l : List Record) × Obeyed file l rest × Tied l p
unfolding at_start
run_obeyed begin = ([], nothing, record { at_stage = refl; says = tt })
run_obeyed {file} (onward {p = p} {q = q} {rest = rest} x run e) = let w = run_obeyed run in after w.0 w.1 w.2
  where
    after : (l : List Record) → Obeyed file l (encode x ++ rest) → Tied l p → (k : List Record) × Obeyed file k rest × Tied k q
    after l o t = let c = correct_after x run t in at c.judged (c.tied e)
      where
        at : Judged l x (step_of x p) → Tied (x ∷ l) q → (k : List Record) × Obeyed file k rest × Tied k q
        at (obeys a z rules) t = (x ∷ l, another x o rules, t)
        at (breaks rule z b first) t = clash (cc)

-- the reader passes every record that is obeyed
obeyed_run : {file rest : List ℕ} {l : List Record} → Obeyed file l rest → (p : Progress) × Run file p rest × Tied l p
unfolding at_start
obeyed_run nothing = (at_start, begin, record { at_stage = refl; says = tt })
obeyed_run {file} (another {l = l} {rest = rest} x o rules) = let w = obeyed_run o in after w.0 w.1 w.2
  where
    after : (p : Progress) → Run file p (encode x ++ rest) → Tied l p → (p' : Progress) × Run file p' rest × Tied (x ∷ l) p'
    after p run t = let c = correct_after x run t in at c.judged c
      where
        at : Judged l x (step_of x p) → Correct l x (step_of x p) → (p' : Progress) × Run file p' rest × Tied (x ∷ l) p'
        at (obeys a z rules) c = (a, onward x run z, c.tied z)
        at (breaks rule z b first) c = absurd (rules rule b)

-- ── A file's end ──

-- either the last stage is reached, or no end record is read
ended_or_not : (stage : Stage) (l : List Record) → AtStage stage l → (stage ≡ Ended) ⊎ NoEnd l
ended_or_not Start l h = inr (λ m. Memᴰ.not-nil (rw h at m))
ended_or_not (States s q) l h = inr h.only.no_end
ended_or_not (Edges s) l h = inr h.only.no_end
ended_or_not Pairs l h = inr h.no_end
ended_or_not Sized l h = inr h.no_end
ended_or_not Ended l h = inl refl

-- ── Each refusal in its case and in no other ──

refused-turned_back : (file : List ℕ) (r : Refusal) → read_task file ≡ Err r → TurnedBack (number_of r) file
unfolding TurnedBack
refused-turned_back file r e =
    let h = halts file in
    let w = run_obeyed h.run in
    at w.0 h.halt h.run w.1 w.2 e
  where
    at : (l : List Record) {p : Progress} {rest : List ℕ} {o : Result Task Refusal} → Halt p rest o → Run file p rest
        → Obeyed file l rest → Tied l p → o ≡ Err r
        → TurnedBack (number_of r) file
    at l (ended d) run o t e = clash (cc)
    at l {p} (unended d) run o t e =
        let same : CutShort ≡ r = cc in
        rw (← same)
        (inr (inl (refl, record { records = l; rest = []; obeyed = o; cut = inl (refl, no_end (ended_or_not p.stage l t.at_stage)) })))
      where
        no_end : (p.stage ≡ Ended) ⊎ NoEnd l → NoEnd l
        no_end (inl e) = absurd (d e)
        no_end (inr h) = h
    at l (unknown b rest k) run o t e =
        let same : UnknownKind ≡ r = cc in
        rw (← same) (inl (refl, record { records = l; byte = b; rest = rest; obeyed = o; unknown = (unknown-kind b).0 k }))
    at l (cut b rest k d f) run o t e =
        let same : CutShort ≡ r = cc in
        rw (← same)
        (inr
        (inl (
          refl,
          record { records = l; rest = b ∷ rest; obeyed = o; cut = inr (b, rest, body_length k, refl, kind-body b k d, f) },
        )))
    at l {p} (broken x rest m d) run o t e = by_rule (correct_after x run t).judged
      where
        by_rule : Judged l x (step_of x p) → TurnedBack (number_of r) file
        by_rule (obeys a z rules) = clash (cc)
        by_rule (breaks rule z b first) =
            let same : refusal_for rule ≡ r = cc in
            rw (← same)
            (inr
            (inr (
              rule,
              number_of-refusal_for rule,
              record { records = l; rest = rest; breaking = x; obeyed = o; breaks = b; first = first },
            )))

-- A file that is turned back with a number is refused with that number.
pub turned_back_refused : (file : List ℕ) (n : ℕ) → TurnedBack n file → (r : Refusal) × (number_of r ≡ n) × (read_task file ≡ Err r)
unfolding TurnedBack
turned_back_refused file n (inl (e, u)) =
    let w = obeyed_run u.obeyed in
    (UnknownKind, sym e, halt_decides w.1 (unknown u.byte u.rest ((unknown-kind u.byte).1 u.unknown)))
turned_back_refused file n (inr (inl (e, c))) =
    let w = obeyed_run c.obeyed in
    (CutShort, sym e, halt_decides w.1 (cut_short w.0 w.2.at_stage c.cut))
  where
    cut_short : (p : Progress) → AtStage p.stage c.records
        → ((c.rest ≡ []) × NoEnd c.records)
        ⊎ ((byte : ℕ) × (l : List ℕ) × (n : ℕ) × (c.rest ≡ byte ∷ l) × Body byte n × (length l < n))
        → Halt p c.rest (Err CutShort)
    cut_short p t (inl w) =
        rw w.0 (unended (λ d. after-end (subst (λ (stage : Stage). AtStage stage c.records) d t).last.1 w.1))
    cut_short p t (inr w) =
        let k = body-kind w.4 in
        rw w.3 (cut w.0 w.1 k.0 k.1 (omega arith))
turned_back_refused file n (inr (inr (rule, e, b))) =
    let w = obeyed_run b.obeyed in (
      refusal_for rule,
      number_of-refusal_for rule ∙ sym e,
      halt_decides w.1 (broken b.breaking b.rest (refusal_for rule) (by_rule (correct_after b.breaking w.1 w.2).judged)),
    )
  where
    by_rule : {s : Result Progress Refusal} → Judged b.records b.breaking s → s ≡ Err (refusal_for rule)
    by_rule (obeys a z rules) = absurd (rules rule b.breaks)
    by_rule (breaks other z fault first) =
        let below : order other < order rule → ⊥ = λ h. b.first other h fault in
        let above : order rule < order other → ⊥ = λ h. first rule h b.breaks in
        let same = order_injective other rule (omega arith) in
        cc

-- Refusal r is the answer exactly in the case that the papers name for its number.
pub refused-exactly : (file : List ℕ) (r : Refusal) → (read_task file ≡ Err r) ↔ TurnedBack (number_of r) file
refused-exactly file r = (
  refused-turned_back file r,
  λ back.
      let w = turned_back_refused file (number_of r) back in
      let same = number_of_injective w.0 r w.1 in
      cc,
)
