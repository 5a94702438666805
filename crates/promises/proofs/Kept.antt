-- The promises of specs/Promises.antt are kept, and the functions that people call end on every input and return what these speak
-- of. Assumes nothing.
use mathlib.Core.Path.{ap, ◌∙◌}
use mathlib.Core.Logic.{◌≢◌}
use native.Mathlib.Omega.{arith}
use Rattle.fra.specs.Lists.{◌∈◌}
use Rattle.fra.specs.Reach.{reached}
use Rattle.task.specs.TaskFile.{task_of, max_registers}
use Rattle.outcome.specs.Verdicts.{Contest, equality, one_way, kind_of, checked_values_of, number_and_zeros}
use Rattle.outcome.specs.Check.{check}
use Rattle.fra_laws.proofs.Reached.{reached-start, reached-legal}
use Rattle.fra_laws.proofs.Bisimulation.{kept_members, never_lost_in-bisimulation, lost_in_no_bisimulation}
use Rattle.task_laws.proofs.ReadValid.{read-valid}
use Rattle.task_laws.proofs.ReadAnswers.{read_answer}
use Rattle.outcome_laws.proofs.WrittenLists.{reached-closed}
use Rattle.outcome_laws.proofs.LeftFixed.{table_fixed, kept_fixed, losses_fixed}
use Rattle.numbers_laws.proofs.SettingsAfterRounds.{round_setting}
use Rattle.numbers_laws.proofs.Agreement.{opening-exists}
use Rattle.comparer.proofs.compare.Statement.{statement as compare-statement}
use Rattle.comparer.proofs.compare.Met.{met as compare-met}
use Rattle.checker.proofs.check.Statement.{statement as check-statement}
use Rattle.checker.proofs.check.Met.{met as check-met}
use Rattle.exports.proofs.nuldopa_compare.Statement.{statement as compare-for-c-statement}
use Rattle.exports.proofs.nuldopa_compare.Met.{met as compare-for-c-met}
use Rattle.exports.proofs.nuldopa_check.Statement.{statement as check-for-c-statement}
use Rattle.exports.proofs.nuldopa_check.Met.{met as check-for-c-met}
use Rattle.exports.proofs.nuldopa_compare_one_way.Statement.{statement as compare-one-way-for-c-statement}
use Rattle.exports.proofs.nuldopa_compare_one_way.Met.{met as compare-one-way-for-c-met}
use Rattle.exports.proofs.nuldopa_check_one_way.Statement.{statement as check-one-way-for-c-statement}
use Rattle.exports.proofs.nuldopa_check_one_way.Met.{met as check-one-way-for-c-met}
use Rattle.promises.specs.Promises.{Promises, Demand1, Demand2, Demand3, returned}
use Rattle.promises.proofs.Support.{size-most}
use Rattle.promises.proofs.ReaderPromises.{reader_refuses, reader_reads}
use Rattle.promises.proofs.AnswerNumbers.{rejection_number}
use Rattle.promises.proofs.ComparerPromises.{verdict-read, refuses-exactly, refusal_returns, early_leaves, late_leaves, answers, counts, leaves_the_table, kept_leaves, lost_leaves, kept_never, lost-rank, own_accepted, lost-least, kept_none, bounds}
use Rattle.promises.proofs.BufferSizes.{buffer-sizes}
use Rattle.promises.proofs.CheckerPromises.{shows, rejects_exactly, accepted, check-answers, shows_of-numbers}

-- ── The functions ──

-- The comparer: what it answers, and what it leaves in the table and in the certificate buffer, is `compare` of the bytes that it
-- was lent, whatever they are, for the game that it is given (crates/comparer/src/lib.rt). For callers in C, a function for each
-- game (crates/exports/src/lib.rt), which an export of that name and with its clauses calls (crates/exports_c/src/lib.rt). What the
-- kit states of a function includes that every call ends.
pub comparer_returns_the_outcome : {M : Type 1} → compare-statement M
comparer_returns_the_outcome = compare-met

pub comparer_for_c_returns_the_outcome : {M : Type 1} → compare-for-c-statement M
comparer_for_c_returns_the_outcome = compare-for-c-met

-- The checker answers `check` of the bytes that it was lent, for the game that it is given, and writes nothing
-- (crates/checker/src/lib.rt).
pub checker_returns_the_outcome : {M : Type 1} → check-statement M
checker_returns_the_outcome = check-met

pub checker_for_c_returns_the_outcome : {M : Type 1} → check-for-c-statement M
checker_for_c_returns_the_outcome = check-for-c-met

pub one_way_comparer_for_c_returns_the_outcome : {M : Type 1} → compare-one-way-for-c-statement M
one_way_comparer_for_c_returns_the_outcome = compare-one-way-for-c-met

pub one_way_checker_for_c_returns_the_outcome : {M : Type 1} → check-one-way-for-c-statement M
one_way_checker_for_c_returns_the_outcome = check-one-way-for-c-met

-- ── The demands ──

module _ (c : Contest) (kinds_differ : kind_of c.kept ≢ kind_of c.lost) where
  demand_1 : Demand1 c
  demand_1 =
      record {
        reader_refuses-exactly = reader_refuses;
        reader_reads_exactly = reader_reads;
        comparer_answers = answers c kinds_differ;
        comparer_refuses-exactly = refuses-exactly c kinds_differ;
        comparer_refusal_returns = refusal_returns c kinds_differ;
        early_refusal_leaves = early_leaves c kinds_differ;
        late_refusal_leaves = late_leaves c kinds_differ;
        verdict_counts = counts c kinds_differ;
        verdict_leaves_the_table = leaves_the_table c kinds_differ;
        kept-verdict_leaves_a-certificate =
            λ file table buffer gives. kept_leaves c kinds_differ file table buffer gives.0 gives.1;
        lost-verdict_leaves_a-certificate =
            λ file table buffer gives. lost_leaves c kinds_differ file table buffer gives.0 gives.1;
        table_is_fixed = λ t one two. table_fixed;
        kept-certificate_is_fixed = λ t one two. kept_fixed;
        lost-certificate_is_fixed = λ t one two. losses_fixed;
        checker_answers = check-answers c kinds_differ;
        checker_refuses-exactly = rejects_exactly c kinds_differ;
        checker_refusal_returns =
            λ file certificate n least h.
            let (e, d, f) = (rejection_number (check c file certificate) n least).0 h in
            ap checked_values_of f ∙ ap number_and_zeros d;
      }

  demand_2 : Demand2 c
  demand_2 =
      record {
        kept_means_bisimilar =
            λ file table buffer gives.
            let t = task_of file in
            let valid = read-valid file (read_answer file (verdict-read c kinds_differ file table buffer gives.0)) in
            let (b, m) =
            never_lost_in-bisimulation c.rules max_registers t (reached c.rules t) (reached-closed valid c.rules)
            (reached-legal valid c.rules) t.start (reached-start valid c.rules)
            (kept_never c kinds_differ file table buffer gives.0 gives.1) in
            ((λ p. p ∈ kept_members c.rules t (reached c.rules t)), b, m);
        lost_means_not_bisimilar =
            λ file table buffer gives.
            lost_in_no_bisimulation c.rules max_registers (task_of file) (returned c file table buffer).rounds
            (task_of file).start
            (lost-rank c kinds_differ file table buffer gives.0 gives.1).lost;
        accepted_exactly = accepted c kinds_differ;
        accepted_shows = shows c kinds_differ;
        own-certificate_accepted = own_accepted c kinds_differ;
      }

  demand_3 : Demand3 c
  demand_3 =
      record {
        task-has_an_opening =
            λ file read. opening-exists max_registers (task_of file) (read-valid file (read_answer file read));
        round_leads-to-a-setting =
            λ file read s setting a k reply.
            round_setting (read-valid file (read_answer file read)) s setting c.rules a k reply;
        lost-exactly = lost-least c kinds_differ;
        kept-exactly = kept_none c kinds_differ;
        rounds-within-positions = λ file table buffer. (bounds c kinds_differ file table buffer).0;
        positions-of-a-size = λ file read. size-most c.rules file (read_answer file read);
        positions-at-most = λ file table buffer. (bounds c kinds_differ file table buffer).1;
        accepted_shows_of-numbers = shows_of-numbers c kinds_differ;
      }

  promises : Promises c
  promises =
      record { demand_1 = demand_1; demand_2 = demand_2; demand_3 = demand_3; buffer-sizes = buffer-sizes c kinds_differ }

-- both sides attack
pub equality-kept : Promises equality
equality-kept = promises equality (λ e. omega arith)

-- only the left side attacks
pub one_way-kept : Promises one_way
one_way-kept = promises one_way (λ e. omega arith)
