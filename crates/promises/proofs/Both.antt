-- The promises on both comparisons of one task are kept. Assumes nothing.
use Prim.Native.Nat.{ℕ}
use Rattle.std.specs.Prelude.{Result}
use mathlib.Core.Path.{◌≡◌, refl, sym, ap, subst}
use mathlib.Core.Logic.{inl, inr, ⊎_elim}
use mathlib.Core.Bool.{true, not}
use mathlib.Core.List.{List}
use native.Mathlib.Omega.{arith}
use lib.Dec.{eqb}
use borrow.Author.Tests.{eqb-true, ne_eqb}
use Rattle.fra.specs.Rules.{Rules, simulation, bisimulation}
use Rattle.fra.specs.Game.{NeverLost}
use Rattle.fra.specs.Reach.{Reached}
use Rattle.fra.specs.Exchange.{exchanged, mirrored_rules}
use Rattle.fra.specs.Valid.{Valid}
use Rattle.fra.specs.declared.Position.{Position}
use Rattle.fra.specs.declared.Task.{Task}
use Rattle.fra.specs.declared.Side.TheVariants.{Left}
use Rattle.fra_laws.proofs.Tests.{and_left, and_right, not_both}
use Rattle.fra_laws.proofs.Weaker.{more_never_lost}
use Rattle.fra_laws.proofs.ReachedAlike.{reached_alike}
use Rattle.fra_laws.proofs.ExchangeLost.{never_lost-exchanged}
use Rattle.task.specs.TaskFile.{task_of, max_registers}
use Rattle.task.specs.ExchangedFile.{exchanged_file}
use Rattle.task_laws.proofs.ReadValid.{read-valid}
use Rattle.task_laws.proofs.ReadAnswers.{read_answer}
use Rattle.task_laws.proofs.ExchangedFile.{exchanged_is_read}
use Rattle.outcome.specs.Verdicts.{Contest, equality, one_way, checked_values_of}
use Rattle.outcome.specs.Check.{check_task}
use Rattle.outcome.specs.Refusals.{TableTooSmall, ComparerRefuses}
use Rattle.task.specs.declared.Refusal.{Refusal}
use Rattle.outcome.specs.declared.Acceptance.{Acceptance}
use Rattle.outcome.specs.declared.Verdict.TheVariants.{Follows}
use Rattle.promises.specs.Promises.{BothComparisons, returned, Gives}
use Rattle.promises.proofs.Support.{checked_read}
use Rattle.promises.proofs.ComparerPromises.{verdict-read, refuses-exactly, answers, kept_never, lost-rank}

-- ── EQUAL gives FOLLOWS ──

-- a left end mark that the right side has not is a difference, on whichever side it is
marks_differ : (l r : ℕ) → simulation.lost l r ≡ true → (not (eqb l r) ≡ true) × (not (eqb r l) ≡ true)
marks_differ l r e =
    let one = eqb-true l 1 (and_left (eqb l 1) (eqb r 0) e) in
    let none = eqb-true r 0 (and_right (eqb l 1) (eqb r 0) e) in
    (ap not (ne_eqb l r (λ d. omega arith)), ap not (ne_eqb r l (λ d. omega arith)))

-- what bisimulation never loses, simulation does not
never_followed : (t : Task) → NeverLost bisimulation t t.start → NeverLost simulation t t.start
never_followed t =
    more_never_lost simulation bisimulation (λ s e. refl) (λ l r e. (marks_differ l r e).0) t t.start

-- nor with the sides exchanged
never_followed_exchanged : {t : Task} → Valid max_registers t → NeverLost bisimulation t t.start
    → NeverLost simulation (exchanged t) (exchanged t).start
unfolding exchanged
never_followed_exchanged {t} valid never =
    more_never_lost simulation (mirrored_rules bisimulation) (λ s e. refl) (λ l r e. (marks_differ l r e).1) (exchanged t)
    (exchanged t).start
    ((never_lost-exchanged valid bisimulation t.start valid.start-legal).1 never)

-- a comparison that is not refused finds a start that is never lost to be so
follows : (file table buffer : List ℕ) → (returned one_way file table buffer).refusal ≡ 0
    → NeverLost simulation (task_of file) (task_of file).start
    → Gives Follows (returned one_way file table buffer)
follows file table buffer given never =
    ⊎_elim (λ gives. gives)
    (⊎_elim
    (λ (e, v).
    absurd
    (not_both _ (lost-rank one_way (λ d. omega arith) file table buffer e v).lost
    (never (returned one_way file table buffer).rounds)))
    (λ more. absurd (omega arith)))
    (answers one_way (λ d. omega arith) file table buffer)

-- ── The positions reached ──

-- where the left side attacks in both games, what is reached in one is reached in the other
alike : {t : Task} → Valid max_registers t → (g h : Rules) → g.attacks Left ≡ true → h.attacks Left ≡ true
    → (p : Position) → Reached g t p → Reached h t p
alike valid g h = reached_alike valid g h

module _ (g h : Rules) (attacked : g.attacks Left ≡ true) (attacked_too : h.attacks Left ≡ true) where
  too_small_too : {t : Task} {table : List ℕ} → Valid max_registers t → TableTooSmall g t table → TableTooSmall h t table
  too_small_too valid s =
      record {
        positions = s.positions;
        unique = s.unique;
        all-reached = λ p m. alike valid g h attacked attacked_too p (s.all-reached p m);
        more = s.more;
      }

-- 11 in the case of one contest is 11 in that of another
refused_too : (c d : Contest) → c.rules.attacks Left ≡ true → d.rules.attacks Left ≡ true
    → (file table buffer : List ℕ) → ComparerRefuses c file table buffer 11 → ComparerRefuses d file table buffer 11
unfolding ComparerRefuses
refused_too c d a b file table buffer (inl back) = inl back
refused_too c d a b file table buffer (inr (read, inl (e, small))) =
    inr (read, inl (e, too_small_too c.rules d.rules a b (read-valid file (read_answer file read)) small))
refused_too c d a b file table buffer (inr (read, inr (e, fits, long))) = absurd (omega arith)

-- ── The promises ──

pub both_comparisons : BothComparisons
unfolding check_task
both_comparisons =
    record {
      exchanged_file_is_read = exchanged_is_read;
      equal_gives_follows =
          λ file table buffer gives table' buffer' given.
          follows file table' buffer' given
          (never_followed (task_of file) (kept_never equality (λ d. omega arith) file table buffer gives.0 gives.1));
      equal_gives_follows-exchanged =
          λ file table buffer gives table' buffer' given.
          let never = kept_never equality (λ d. omega arith) file table buffer gives.0 gives.1 in
          let read = verdict-read equality (λ d. omega arith) file table buffer gives.0 in
          follows (exchanged_file file) table' buffer' given
          (subst (λ (t : Task). NeverLost simulation t t.start) (sym (exchanged_is_read file read).1)
          (never_followed_exchanged (read-valid file (read_answer file read)) never));
      same-positions-reached =
          λ file read p.
          let valid = read-valid file (read_answer file read) in
          (alike valid bisimulation simulation refl refl p, alike valid simulation bisimulation refl refl p);
      table_too_small_alike =
          λ file table buffer.
          let one = refuses-exactly equality (λ d. omega arith) file table buffer 11 (omega arith) in
          let two = refuses-exactly one_way (λ d. omega arith) file table buffer 11 (omega arith) in (
            λ h. two.1 (refused_too equality one_way refl refl file table buffer (one.0 h)),
            λ h. one.1 (refused_too one_way equality refl refl file table buffer (two.0 h)),
          );
      other_kinds_turned_back =
          λ file rest read.
          let answer = read_answer file read in (
            ap refused (checked_read equality file _ answer),
            ap refused (checked_read equality file _ answer),
            ap refused (checked_read one_way file _ answer),
            ap refused (checked_read one_way file _ answer),
          );
    }
  where
    refused : Result Acceptance Refusal → ℕ
    refused a = (checked_values_of a).refusal
