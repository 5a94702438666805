-- The promises on a check: which certificates are accepted and what that shows, and which are refused. Assumes nothing.
use Prim.Native.Nat.{ℕ, ◌<◌}
use Rattle.std.specs.Prelude.{Result, Ok, Err}
use Rattle.fra.specs.declared.Task.{Task}
use mathlib.Core.Path.{◌≡◌, refl, sym, ◌∙◌, ap, subst}
use mathlib.Core.Logic.{◌⊎◌, inl, inr, ⊎_elim, ◌↔◌, ◌≢◌}
use mathlib.Core.Bool.{true}
use mathlib.Core.List.{List}
use native.Mathlib.Omega.{arith}
use Rattle.fra.specs.Game.{lost_within, NeverLost}
use Rattle.task.specs.TaskFile.{read_task, task_of, IsRead, max_registers}
use Rattle.task.specs.Refusals.{number_of}
use Rattle.task.specs.declared.Refusal.{Refusal}
use Rattle.outcome.specs.Bytes.{Byte, values}
use Rattle.outcome.specs.Verdicts.{Contest, Values, kind_of, checked_values_of}
use Rattle.outcome.specs.Check.{check_task, check}
use Rattle.outcome.specs.Conditions.{Accepts, accepts-kept, accepts-lost}
use Rattle.outcome.specs.Refusals.{CheckerRefuses}
use Rattle.outcome.specs.declared.Verdict.{Verdict}
use Rattle.outcome.specs.declared.Acceptance.{Acceptance}
use Rattle.numbers.specs.Numbers.{Setting, Opening, Enough}
use Rattle.fra_laws.proofs.Tests.{clash}
use Rattle.task_laws.proofs.ReadValid.{read-valid}
use Rattle.task_laws.proofs.ReadAnswers.{answer-read, read_answer}
use Rattle.task_laws.proofs.FileRefusals.{turned_back_refused, refused-exactly as unread-exactly}
use Rattle.task_laws.proofs.RefusalNumbers.{number_of_injective, number_of-least}
use Rattle.outcome_laws.proofs.Encoding.{values-bytes}
use Rattle.outcome_laws.proofs.Check.{check_accepted, check-refused}
use Rattle.outcome_laws.proofs.Conditions.{kept-start_never_lost, listed-start-lost}
use Rattle.numbers_laws.proofs.Agreement.{enough_iff_lost, never_enough_iff_never_lost}
use Rattle.promises.specs.Promises.{returned_by_check, Gives}
use Rattle.promises.proofs.Support.{checked_read, checked_unread}
use Rattle.promises.proofs.ReaderPromises.{not_read}
use Rattle.promises.proofs.AnswerNumbers.{kind_fixes, rejection_number}

module _ (c : Contest) (kinds_differ : kind_of c.kept ≢ kind_of c.lost) where
  pub shows : (file certificate : List ℕ) (v : Verdict) (n : ℕ) → Accepts max_registers c (task_of file) certificate v n
      → ((v ≡ c.kept) × NeverLost c.rules (task_of file) (task_of file).start)
      ⊎ (v ≡ c.lost) × (lost_within c.rules (task_of file) n (task_of file).start ≡ true)
  shows file certificate v n (accepts-kept l e rises condition) =
      inl (refl, kept-start_never_lost c.rules (task_of file) max_registers l condition)
  shows file certificate v n (accepts-lost l e are_legal are_words rises condition x m d) =
      inr (refl, listed-start-lost c.rules (task_of file) l condition x m d)

  module _ (file : List ℕ) (certificate : List Byte) where
    abbrev check_numbers : Values
    check_numbers = returned_by_check c file (values certificate)

    rejects : (e : Refusal)
        → (check c file (values certificate) ≡ Err e) ↔ CheckerRefuses c file (values certificate) (number_of e)
    unfolding CheckerRefuses
    rejects e = by (read_task file) refl
      where
        by : (r : Result Task Refusal) → read_task file ≡ r
            → (check c file (values certificate) ≡ Err e) ↔ CheckerRefuses c file (values certificate) (number_of e)
        by (Ok t) f =
            let read = answer-read file f in
            let same = checked_read c file (values certificate) (read_answer file read) in
            let each = check-refused max_registers c (task_of file) kinds_differ (values certificate) (values-bytes certificate) e in (
              λ h.
                  inr (
                    read,
                    ⊎_elim (λ (d, m). inl (ap number_of d, m)) (λ (d, m). inr (ap number_of d, m)) (each.0 (sym same ∙ h)),
                  ),
              ⊎_elim (λ back. absurd (not_read file (number_of e) back read))
                  (λ (g, h).
                  same
                  ∙ each.1
                  (⊎_elim (λ (d, m). inl (number_of_injective e Refusal.Malformed d, m))
                  (λ (d, m). inr (number_of_injective e Refusal.NotAccepted d, m))
                  h)),
            )
        by (Err m) f =
            let same = checked_unread c file (values certificate) m f in (
              λ h. let d : m ≡ e = cc in inl ((unread-exactly file e).0 (cc)),
              ⊎_elim (λ back. let d = (unread-exactly file e).1 back in cc)
                  (λ (g, h). absurd (not_read file (number_of m) ((unread-exactly file m).0 f) g)),
            )

    -- what is rejected with a number is rejected with the refusal of that number
    rejection_named : (n : ℕ) → CheckerRefuses c file (values certificate) n → (e : Refusal) × (number_of e ≡ n)
    unfolding CheckerRefuses
    rejection_named n (inl back) = let (e, d, f) = turned_back_refused file n back in (e, d)
    rejection_named n (inr (read, inl (d, h))) = (Refusal.Malformed, sym d)
    rejection_named n (inr (read, inr (d, h))) = (Refusal.NotAccepted, sym d)

    pub rejects_exactly : (n : ℕ) → 0 < n → (check_numbers.refusal ≡ n) ↔ CheckerRefuses c file (values certificate) n
    rejects_exactly n least = (
      λ h.
          let (e, d, f) = (rejection_number (check c file (values certificate)) n least).0 h in
          subst (CheckerRefuses c file (values certificate)) d ((rejects e).0 f),
      λ h.
          let (e, d) = rejection_named n h in
          let named = subst (CheckerRefuses c file (values certificate)) (sym d) h in
          (rejection_number (check c file (values certificate)) n least).1 (e, d, (rejects e).1 named),
    )

    accepts : (v : Verdict) (n : ℕ) → (check c file (values certificate) ≡ Ok (record { verdict = v; rounds = n }))
        ↔ (IsRead file × Accepts max_registers c (task_of file) (values certificate) v n)
    accepts v n = by (read_task file) refl
      where
        each : (check_task max_registers c (task_of file) (values certificate) ≡ Ok (record { verdict = v; rounds = n }))
            ↔ Accepts max_registers c (task_of file) (values certificate) v n
        each = check_accepted max_registers c (task_of file) kinds_differ (values certificate) (values-bytes certificate) v n

        by : (r : Result Task Refusal) → read_task file ≡ r
            → (check c file (values certificate) ≡ Ok (record { verdict = v; rounds = n }))
            ↔ (IsRead file × Accepts max_registers c (task_of file) (values certificate) v n)
        by (Ok t) f =
            let read = answer-read file f in
            let same = checked_read c file (values certificate) (read_answer file read) in
            (λ h. (read, each.0 (sym same ∙ h)), λ (g, a). same ∙ each.1 a)
        by (Err m) f =
            let same = checked_unread c file (values certificate) m f in (
              λ h. clash (cc),
              λ (g, a). absurd (not_read file (number_of m) ((unread-exactly file m).0 f) g),
            )

    -- an answer and its numbers
    accepted_numbers : (v : Verdict) (n : ℕ)
        → (Gives v check_numbers × (check_numbers.rounds ≡ n))
        ↔ (check c file (values certificate) ≡ Ok (record { verdict = v; rounds = n }))
    accepted_numbers v n = by (check c file (values certificate)) refl
      where
        by : (a : Result Acceptance Refusal) → check c file (values certificate) ≡ a
            → (Gives v check_numbers × (check_numbers.rounds ≡ n))
            ↔ (check c file (values certificate) ≡ Ok (record { verdict = v; rounds = n }))
        by (Ok a) e = (
          λ ((z, k), f).
              let d = kind_fixes a.verdict v (sym (ap (λ (x : Result Acceptance Refusal). (checked_values_of x).verdict) e) ∙ k) in
              let g = sym (ap (λ (x : Result Acceptance Refusal). (checked_values_of x).rounds) e) ∙ f in
              e ∙ ap {B = Result Acceptance Refusal} (λ (x : Verdict). Ok (record { verdict = x; rounds = a.rounds })) d
              ∙ ap {B = Result Acceptance Refusal} (λ (x : ℕ). Ok (record { verdict = v; rounds = x })) g,
          λ h. ((rw h refl, rw h refl), rw h refl),
        )
        by (Err m) e = (
          λ ((z, k), f).
              let d : number_of m ≡ 0 = sym (ap (λ (x : Result Acceptance Refusal). (checked_values_of x).refusal) e) ∙ z in
              absurd (omega (arith, number_of-least m)),
          λ h. clash (cc),
        )

    pub accepted : (v : Verdict) (n : ℕ) → (Gives v check_numbers × (check_numbers.rounds ≡ n))
        ↔ (IsRead file × Accepts max_registers c (task_of file) (values certificate) v n)
    accepted v n =
        (λ h. (accepts v n).0 ((accepted_numbers v n).0 h), λ h. (accepted_numbers v n).1 ((accepts v n).1 h))

    pub check-answers : Gives c.kept check_numbers ⊎ Gives c.lost check_numbers ⊎ (0 < check_numbers.refusal)
    check-answers = by (check c file (values certificate)) refl
      where
        accepted_as : (a : Acceptance) {v : Verdict} → a.verdict ≡ v
            → ◌≡◌ {A = Result Acceptance Refusal} (Ok a) (Ok (record { verdict = v; rounds = a.rounds }))
        accepted_as a f = ap {B = Result Acceptance Refusal} (λ (x : Verdict). Ok (record { verdict = x; rounds = a.rounds })) f

        by : (a : Result Acceptance Refusal) → check c file (values certificate) ≡ a
            → Gives c.kept check_numbers ⊎ Gives c.lost check_numbers ⊎ (0 < check_numbers.refusal)
        by (Ok a) e =
            ⊎_elim
            (λ (f, never). inl ((accepted_numbers c.kept a.rounds).1 (e ∙ accepted_as a f)).0)
            (λ (f, lost). inr (inl ((accepted_numbers c.lost a.rounds).1 (e ∙ accepted_as a f)).0))
            (shows file (values certificate) a.verdict a.rounds ((accepts a.verdict a.rounds).0 e).1)
        by (Err m) e = inr (inr (rw e (number_of-least m)))

    -- what an accepted certificate shows of actual numbers
    pub shows_of-numbers : (s : Setting) → Opening max_registers (task_of file) s
        → (Gives c.kept check_numbers → (n : ℕ) → Enough c.rules (task_of file) n s → ⊥)
        × (Gives c.lost check_numbers → Enough c.rules (task_of file) check_numbers.rounds s)
    shows_of-numbers s opening = (
      λ gives.
          let (read, a) = (accepted c.kept check_numbers.rounds).0 (gives, refl) in
          ⊎_elim
          (λ (e, never).
          (never_enough_iff_never_lost max_registers (task_of file) (read-valid file (read_answer file read)) c.rules s opening).1
          never)
          (λ (e, lost). absurd (kinds_differ (ap kind_of e)))
          (shows file (values certificate) c.kept check_numbers.rounds a),
      λ gives.
          let (read, a) = (accepted c.lost check_numbers.rounds).0 (gives, refl) in
          ⊎_elim
          (λ (e, never). absurd (kinds_differ (ap kind_of (sym e))))
          (λ (e, lost).
          (enough_iff_lost max_registers (task_of file) (read-valid file (read_answer file read)) c.rules s opening
          check_numbers.rounds).1 lost)
          (shows file (values certificate) c.lost check_numbers.rounds a),
    )
