-- The promises on a comparison: when it is refused and what it then leaves; what a verdict leaves and what it means. Assumes
-- nothing.
use Prim.Native.Nat.{ℕ, zero, suc, ◌*◌, ◌-◌, ◌≤◌, ◌<◌}
use mathlib.Core.Path.{◌≡◌, refl, sym, ◌∙◌, ap, subst}
use mathlib.Core.Logic.{◌⊎◌, inl, inr, ⊎_elim, ◌↔◌, ◌≢◌}
use mathlib.Core.List.{List}
use Rattle.std.specs.Prelude.{None, Some, Result, Ok, Err}
use native.Mathlib.Omega.{arith}
use lib.ListN.{length, take, drop}
use lib.Seq.{take_at}
use Rattle.fra.specs.Game.{lost_within, NeverLost, HasRank}
use Rattle.fra.specs.Reach.{Reached, reached, rounds}
use Rattle.fra.specs.Valid.{Valid}
use Rattle.fra.specs.declared.Task.{Task}
use Rattle.task.specs.TaskFile.{read_task, task_of, IsRead, max_registers}
use Rattle.task.specs.Records.{TurnedBack}
use Rattle.task.specs.Refusals.{number_of}
use Rattle.task.specs.declared.Refusal.{Refusal}
use Rattle.outcome.specs.Bytes.{cleared, then_zeros, then_rest}
use Rattle.outcome.specs.Verdicts.{Contest, Values, kind_of, values_of, checked_values_of, number_and_zeros}
use Rattle.outcome.specs.Certificate.{entries, certificate_by}
use Rattle.outcome.specs.Compare.{Outcome, compare}
use Rattle.outcome.specs.Check.{check_task, check}
use Rattle.outcome.specs.Listed.{Counted, TableHolds, KeptWritten, LossesWritten}
use Rattle.outcome.specs.Refusals.{ComparerRefuses}
use Rattle.outcome.specs.declared.Verdict.{Verdict}
use Rattle.outcome.specs.declared.Comparison.{Comparison}
use Rattle.numbers.specs.Numbers.{Setting, Opening, Enough, LeastEnough}
use Rattle.fra_laws.proofs.Tests.{not_both}
use Rattle.fra_laws.proofs.Ranks.{same_rank}
use Rattle.fra_laws.proofs.Reached.{reached-exactly, reached-unique}
use Rattle.task_laws.proofs.ReadValid.{read-valid}
use Rattle.task_laws.proofs.ReadAnswers.{answer-read, read_answer}
use Rattle.task_laws.proofs.FileRefusals.{turned_back_refused, refused-exactly as unread-exactly}
use Rattle.task_laws.proofs.RefusalNumbers.{number_of_injective, number_of-least}
use Rattle.outcome_laws.proofs.WrittenLists.{rounds_never, rounds-least}
use Rattle.outcome_laws.proofs.Compare.{Says, refused-exactly, late_outcome}
use Rattle.outcome_laws.proofs.LeftBehind.{table-left, kept-left, losses-left}
use Rattle.outcome_laws.proofs.OwnCertificate.{own-kept, own-lost}
use Rattle.numbers_laws.proofs.Agreement.{least-enough_iff_first-lost, never_enough_iff_never_lost}
use Rattle.promises.specs.Promises.{returned, certificate_left, returned_by_check, Gives}
use Rattle.promises.proofs.Support.{compared-read, compared_unread, decided-read, checked_read, count_most, count_fits}
use Rattle.promises.proofs.ReaderPromises.{not_read}
use Rattle.promises.proofs.AnswerNumbers.{kind_fixes, refusal-number}

-- a verdict on a file that is read, and what is known of it
record Decision (c : Contest) (file table buffer : List ℕ) : Type 0 where
  pub verdict : Verdict
  pub positions : ℕ
  pub rounds : ℕ
  pub size : ℕ
  pub numbers : returned c file table buffer
      ≡ values_of (Ok (record { verdict = verdict; positions = positions; rounds = rounds; length = size }))
  pub read : read_task file ≡ Ok (task_of file)
  pub says : Says c (task_of file) table buffer verdict positions rounds size

module _ (c : Contest) (kinds_differ : kind_of c.kept ≢ kind_of c.lost) where
  module _ (file table buffer : List ℕ) where
    abbrev outcome : Outcome
    outcome = compare c file table buffer

    abbrev r : Values
    r = returned c file table buffer

    refuses : (e : Refusal) → (outcome.answer ≡ Err e) ↔ ComparerRefuses c file table buffer (number_of e)
    unfolding ComparerRefuses
    refuses e = by (read_task file) refl
      where
        by : (r : Result Task Refusal) → read_task file ≡ r
            → (outcome.answer ≡ Err e) ↔ ComparerRefuses c file table buffer (number_of e)
        by (Ok t) f =
            let read = answer-read file f in
            let same = ap (λ (o : Outcome). o.answer) (compared-read c file table buffer (read_answer file read)) in
            let late = refused-exactly c (task_of file) table buffer (read-valid file (read_answer file read)) refl refl e in (
              λ h.
                  inr (
                    read,
                    ⊎_elim (λ (d, m). inl (ap number_of d, m)) (λ (d, fits, long). inr (ap number_of d, fits, long)) (late.0 (sym same ∙ h)),
                  ),
              ⊎_elim (λ back. absurd (not_read file (number_of e) back read))
                  (λ (g, h).
                  same
                  ∙ late.1
                  (⊎_elim (λ (d, m). inl (number_of_injective e Refusal.TableTooSmall d, m))
                  (λ (d, fits, long). inr (number_of_injective e Refusal.BufferTooSmall d, fits, long))
                  h)),
            )
        by (Err m) f =
            let same = ap (λ (o : Outcome). o.answer) (compared_unread c file table buffer m f) in (
              λ h. let d : m ≡ e = cc in inl ((unread-exactly file e).0 (cc)),
              ⊎_elim (λ back. let d = (unread-exactly file e).1 back in cc)
                  (λ (g, h). absurd (not_read file (number_of m) ((unread-exactly file m).0 f) g)),
            )

    -- what is refused with a number is refused with the refusal of that number
    refusal_named : (n : ℕ) → ComparerRefuses c file table buffer n → (e : Refusal) × (number_of e ≡ n)
    unfolding ComparerRefuses
    refusal_named n (inl back) = let (e, d, f) = turned_back_refused file n back in (e, d)
    refusal_named n (inr (read, inl (d, h))) = (Refusal.TableTooSmall, sym d)
    refusal_named n (inr (read, inr (d, fits, long))) = (Refusal.BufferTooSmall, sym d)

    pub refuses-exactly : (n : ℕ) → 0 < n → (r.refusal ≡ n) ↔ ComparerRefuses c file table buffer n
    refuses-exactly n least = (
      λ h.
          let (e, d, f) = (refusal-number outcome.answer n least).0 h in
          subst (ComparerRefuses c file table buffer) d ((refuses e).0 f),
      λ h.
          let (e, d) = refusal_named n h in
          let named = subst (ComparerRefuses c file table buffer) (sym d) h in
          (refusal-number outcome.answer n least).1 (e, d, (refuses e).1 named),
    )

    pub refusal_returns : (n : ℕ) → 0 < n → r.refusal ≡ n → r ≡ number_and_zeros n
    refusal_returns n least h =
        let (e, d, f) = (refusal-number outcome.answer n least).0 h in
        ap values_of f ∙ ap number_and_zeros d

    pub early_leaves : (n : ℕ) → TurnedBack n file → (outcome.table ≡ table) × (outcome.certificate ≡ buffer)
    early_leaves n back =
        let (e, d, f) = turned_back_refused file n back in
        let same = compared_unread c file table buffer e f in
        (ap (λ (o : Outcome). o.table) same, ap (λ (o : Outcome). o.certificate) same)

    pub late_leaves : IsRead file → 0 < r.refusal → (outcome.table ≡ cleared table) × (outcome.certificate ≡ buffer)
    late_leaves h least =
        let read = compared-read c file table buffer (read_answer file h) in
        let (e, d, refused) = (refusal-number outcome.answer r.refusal least).0 refl in
        let same =
        read ∙ late_outcome c (task_of file) table buffer e (sym (ap (λ (o : Outcome). o.answer) read) ∙ refused) in
        (ap (λ (o : Outcome). o.table) same, ap (λ (o : Outcome). o.certificate) same)

    -- a call without a refusal has a verdict, given on a file that is read
    decides : r.refusal ≡ 0 → Decision c file table buffer
    decides h = by outcome.answer refl
      where
        by : (a : Result Comparison Refusal) → outcome.answer ≡ a → Decision c file table buffer
        by (Ok k) e =
            let (read, says) = decided-read c file table buffer k.verdict k.positions k.rounds k.length e in
            record {
              verdict = k.verdict;
              positions = k.positions;
              rounds = k.rounds;
              size = k.length;
              numbers = ap values_of e;
              read = read;
              says = says;
            }
        by (Err m) e =
            let d : number_of m ≡ 0 = sym (ap (λ (a : Result Comparison Refusal). (values_of a).refusal) e) ∙ h in
            absurd (omega (arith, number_of-least m))

    -- a verdict is given on a file that is read
    pub verdict-read : r.refusal ≡ 0 → IsRead file
    verdict-read h = answer-read file (decides h).read

    pub answers : Gives c.kept r ⊎ Gives c.lost r ⊎ (0 < r.refusal)
    answers = by r.refusal refl
      where
        by : (n : ℕ) → r.refusal ≡ n → Gives c.kept r ⊎ Gives c.lost r ⊎ (0 < r.refusal)
        by (suc n) e = inr (inr (omega arith))
        by zero e =
            let d = decides e in
            let number = ap (λ (w : Values). w.verdict) d.numbers in
            ⊎_elim (λ (f, never, z). inl (e, number ∙ ap kind_of f)) (λ (f, lost). inr (inl (e, number ∙ ap kind_of f)))
            d.says.start

    -- what stands at the start of the buffer
    pub certificate_front : (written : List ℕ) → r.length ≡ length written → outcome.certificate ≡ then_rest written buffer
        → certificate_left c file table buffer ≡ written
    unfolding then_rest
    certificate_front written long left =
        ap (take r.length) left ∙ take_at written (drop (length written) buffer) r.length (sym long)

    -- ── What a verdict leaves behind ──

    module _ (undisputed : r.refusal ≡ 0) where
      abbrev d : Decision c file table buffer
      d = decides undisputed

      abbrev t : Task
      t = task_of file

      abbrev valid : Valid max_registers t
      valid = read-valid file d.read

      pub counts : Counted (Reached c.rules t) r.positions
      counts =
          record {
            positions = reached c.rules t;
            unique = reached-unique valid c.rules;
            exactly = reached-exactly valid c.rules;
            number = ap (λ (w : Values). w.positions) d.numbers ∙ d.says.count;
          }

      pub leaves_the_table : (written : List ℕ) × TableHolds c.rules t written × (outcome.table ≡ then_zeros written table)
      leaves_the_table =
          let same = compared-read c file table buffer d.read ∙ d.says.outcome in
          (entries c.rules t, table-left valid c.rules, ap (λ (o : Outcome). o.table) same)

      -- the length and the bytes of the certificate, whatever it is
      leaves_a-certificate : (r.length ≡ length (certificate_by c t (rounds c.rules t t.start)))
          × (outcome.certificate ≡ then_rest (certificate_by c t (rounds c.rules t t.start)) buffer)
      leaves_a-certificate =
          let same = compared-read c file table buffer d.read ∙ d.says.outcome in
          (ap (λ (w : Values). w.length) d.numbers ∙ d.says.bytes, ap (λ (o : Outcome). o.certificate) same)

      verdict_is : (v : Verdict) → r.verdict ≡ kind_of v → d.verdict ≡ v
      verdict_is v e = kind_fixes d.verdict v (sym (ap (λ (w : Values). w.verdict) d.numbers) ∙ e)

      -- the verdict, and what it says of the start
      kept-start : r.verdict ≡ kind_of c.kept → (rounds c.rules t t.start ≡ None) × (d.rounds ≡ 0)
      kept-start e =
          ⊎_elim (λ (f, never, z). (never, z))
          (λ (f, lost). absurd (kinds_differ (ap kind_of (sym (verdict_is c.kept e) ∙ f))))
          d.says.start

      lost-start : r.verdict ≡ kind_of c.lost → rounds c.rules t t.start ≡ Some d.rounds
      lost-start e =
          ⊎_elim (λ (f, never, z). absurd (kinds_differ (ap kind_of (sym f ∙ verdict_is c.lost e))))
          (λ (f, lost). lost)
          d.says.start

      pub kept_leaves : r.verdict ≡ kind_of c.kept
          → (r.rounds ≡ 0)
          × (written : List ℕ) × KeptWritten c t written × (r.length ≡ length written)
          × (outcome.certificate ≡ then_rest written buffer)
      kept_leaves e =
          let (never, z) = kept-start e in
          let (long, left) = leaves_a-certificate in (
            ap (λ (w : Values). w.rounds) d.numbers ∙ z,
            certificate_by c t (rounds c.rules t t.start),
            rw never (kept-left valid c),
            long,
            left,
          )

      pub lost_leaves : r.verdict ≡ kind_of c.lost
          → (written : List ℕ) × LossesWritten c t written × (r.length ≡ length written)
          × (outcome.certificate ≡ then_rest written buffer)
      lost_leaves e =
          let lost = lost-start e in
          let (rank, bound) = rounds-least valid c.rules d.rounds lost in
          let (long, left) = leaves_a-certificate in (
            certificate_by c t (rounds c.rules t t.start),
            rw lost (losses-left valid c d.rounds rank),
            long,
            left,
          )

      -- ── What it means ──

      pub kept_never : r.verdict ≡ kind_of c.kept → NeverLost c.rules t t.start
      kept_never e = (rounds_never valid c.rules).0 (kept-start e).0

      pub lost-rank : r.verdict ≡ kind_of c.lost → HasRank c.rules t t.start r.rounds
      lost-rank e =
          rw (ap (λ (w : Values). w.rounds) d.numbers) (rounds-least valid c.rules d.rounds (lost-start e)).0

      pub own_accepted : returned_by_check c file (certificate_left c file table buffer)
          ≡ record { refusal = 0; verdict = r.verdict; positions = 0; rounds = r.rounds; length = 0 }
      own_accepted = ap checked_values_of accepted ∙ rw d.numbers
        where
          accepted : check c file (certificate_left c file table buffer) ≡ Ok (record { verdict = d.verdict; rounds = d.rounds })
          accepted =
              let (long, left) = leaves_a-certificate in
              checked_read c file _ d.read
              ∙ ap (check_task max_registers c t) (certificate_front _ long left)
              ∙ ⊎_elim
              (λ (e, never, z). rw (never, e, z) (own-kept valid c kinds_differ never))
              (λ (e, lost). rw (lost, e) (own-lost valid c kinds_differ (count_fits c.rules file d.read) d.rounds lost))
              d.says.start

      -- the rounds, and the count of positions that they do not exceed
      rounds_bound : (r.rounds ≤ r.positions) × (r.positions ≤ (14 - (task_of file).start.history) * 3411712)
      rounds_bound =
          let most = count_most c.rules file d.read in
          let count = d.says.count in
          rw d.numbers
          (⊎_elim (λ (f, never, z). (omega arith, omega arith))
          (λ (f, lost).
          let (rank, bound) = rounds-least valid c.rules d.rounds lost in
          (omega arith, omega arith))
          d.says.start)

      module _ (s : Setting) (opening : Opening max_registers t s) where
        least : (m : ℕ) → LeastEnough c.rules t m s ↔ HasRank c.rules t t.start m
        least = least-enough_iff_first-lost max_registers t valid c.rules s opening

        never_enough : ((m : ℕ) → Enough c.rules t m s → ⊥) ↔ NeverLost c.rules t t.start
        never_enough = never_enough_iff_never_lost max_registers t valid c.rules s opening

        pub lost-least : (m : ℕ) → (Gives c.lost r × (r.rounds ≡ m)) ↔ LeastEnough c.rules t m s
        lost-least m = (
          λ (gives, e). (least m).1 (subst (HasRank c.rules t t.start) e (lost-rank gives.1)),
          λ h.
              let rank = (least m).0 h in
              ⊎_elim
              (λ kept. absurd (not_both (lost_within c.rules t m t.start) rank.lost (kept_never kept.1 m)))
              (⊎_elim (λ lost. (lost, same_rank c.rules t (lost-rank lost.1) rank)) (λ refused. absurd (omega arith)))
              answers,
        )

        pub kept_none : Gives c.kept r ↔ ((m : ℕ) → Enough c.rules t m s → ⊥)
        kept_none = (
          λ gives. never_enough.1 (kept_never gives.1),
          λ h.
              ⊎_elim (λ kept. kept)
              (⊎_elim
              (λ lost.
              absurd
              (not_both (lost_within c.rules t r.rounds t.start) (lost-rank lost.1).lost
              (never_enough.0 h r.rounds)))
              (λ refused. absurd (omega arith)))
              answers,
        )

  -- numbers of a refusal exceed nothing
  pub bounds : (file table buffer : List ℕ)
      → ((returned c file table buffer).rounds ≤ (returned c file table buffer).positions)
      × ((returned c file table buffer).positions ≤ (14 - (task_of file).start.history) * 3411712)
  bounds file table buffer = by (returned c file table buffer).refusal refl
    where
      by : (n : ℕ) → (returned c file table buffer).refusal ≡ n
          → ((returned c file table buffer).rounds ≤ (returned c file table buffer).positions)
          × ((returned c file table buffer).positions ≤ (14 - (task_of file).start.history) * 3411712)
      by zero e = rounds_bound file table buffer e
      by (suc n) e = rw (refusal_returns file table buffer (suc n) (omega arith) e) (omega arith, omega arith)
