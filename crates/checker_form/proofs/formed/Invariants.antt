-- The records from record `i` on are left to test.
use Rattle.std.proofs.Common.{◌≡◌, ◌-◌}
use Rattle.fra.specs.Lists.{all, count}
use Rattle.game_index.specs.Reading.{task_in}
use Rattle.checker_laws.specs.CertificateRecords.{formed_at}
use Rattle.checker_form.proofs.formed.Given as goal

abbrev pub invariant-loop-i : goal.invariant-loop-i
invariant-loop-i l =
    let test = formed_at (task_in l.index) l.kind l.records l.certificate in
    all test (count 0 l.records.count) ≡ all test (count l.i (l.records.count - l.i))
