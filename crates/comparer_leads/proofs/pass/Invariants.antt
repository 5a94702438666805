-- The pass has gone over the first `i` entries.
use Rattle.std.proofs.Common.{◌≡◌}
use Rattle.game_index.specs.Reading.{task_in, rules_in}
use Rattle.comparer_certify_laws.specs.Marking.{passed}
use Rattle.comparer_leads.proofs.pass.Given as goal

abbrev pub invariant-loop-i : goal.invariant-loop-i
invariant-loop-i l = l.table ≡ passed (rules_in l.index.bytes) (task_in l.index.bytes) l.n l.k l.i l.fn.table
