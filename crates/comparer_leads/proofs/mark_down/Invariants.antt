-- Passes from `k` rounds down are left.
use Rattle.std.proofs.Common.{◌≡◌}
use Rattle.game_index.specs.Reading.{task_in, rules_in}
use Rattle.comparer_certify_laws.specs.Marking.{marking}
use Rattle.comparer_certify_laws.proofs.StillSearchable.{Kept}
use Rattle.comparer_leads.proofs.mark_down.Given as goal

abbrev pub invariant-loop-k : goal.invariant-loop-k
invariant-loop-k l = record {
  kept : Kept l.n l.fn.table l.table;
  left : marking (rules_in l.index.bytes) (task_in l.index.bytes) l.n l.k l.table
      ≡ marking (rules_in l.index.bytes) (task_in l.index.bytes) l.n l.rounds l.fn.table;
}
