-- The start is listed, and the records from record `i` on are left to test.
use Rattle.std.proofs.Common.{◌≡◌, ◌-◌, length}
use Rattle.fra.specs.Lists.{all, count}
use Rattle.game_index.specs.Reading.{task_in, rules_in}
use Rattle.checker_laws.specs.CertificateRecords.{records_of}
use Rattle.checker_laws.specs.CheckAnswers.{record_holds, accepted_by}
use Rattle.checker_acceptance.proofs.accepted.Given as goal

abbrev pub invariant-loop-i : goal.invariant-loop-i
invariant-loop-i l =
    (l.i-end ≡ (records_of l.standing (length l.certificate)).count)
    × (accepted_by (rules_in l.index.bytes) (task_in l.index.bytes) l.standing l.certificate
    ≡ all (record_holds (rules_in l.index.bytes) (task_in l.index.bytes) l.standing l.certificate) (count l.i (l.i-end - l.i)))
