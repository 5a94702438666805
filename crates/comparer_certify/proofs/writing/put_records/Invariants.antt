-- The records of the entries before `i` are written.
use Rattle.game_index.specs.Reading.{task_in, rules_in}
use Rattle.comparer_certify_laws.proofs.RecordFilling.{Filled}
use Rattle.comparer_certify.specs.RecordFields.{kind_in}
use Rattle.comparer_certify.proofs.writing.put_records.Given as goal

abbrev pub invariant-loop-i : goal.invariant-loop-i
invariant-loop-i l =
    Filled (rules_in l.index.bytes) (task_in l.index.bytes) l.standing (kind_in l.index.bytes l.standing) l.n l.table l.fn.buffer l.i l.at l.buffer
