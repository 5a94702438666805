-- The entries before `i` that have a record are counted.
use Rattle.std.proofs.Common.{◌≡◌, length}
use Rattle.comparer_certify_laws.specs.EntryRecords.{listed_places}
use Rattle.comparer_marks.proofs.count_listed.Given as goal

abbrev pub invariant-loop-i : goal.invariant-loop-i
invariant-loop-i l = l.found ≡ length (listed_places l.standing l.i l.table)
