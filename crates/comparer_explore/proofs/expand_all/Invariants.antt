-- Some positions are found, and those before one are expanded. The entries from that one on are left.
use Rattle.std.proofs.Common.{◌-◌, length}
use Rattle.outcome.specs.Compare.{capacity}
use Rattle.game_index.specs.Reading.{task_in, rules_in}
use Rattle.comparer_explore_laws.specs.Exploring.{Exploring}
use Rattle.comparer_explore.proofs.expand_all.Given as goal

abbrev pub invariant-loop-done : goal.invariant-loop-done
invariant-loop-done l = Exploring (rules_in l.index.bytes) (task_in l.index.bytes) (length l.fn.table) l.found l.done l.table

abbrev pub decreases-loop-done : goal.decreases-loop-done
decreases-loop-done l = capacity l.fn.table - l.done
