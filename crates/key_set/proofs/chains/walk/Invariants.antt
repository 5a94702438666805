-- The link is at most the head, and an entry with the key that the walk from the head visits is visited from here on. The link falls.
use Rattle.key_set_laws.specs.HashChains.{Walking}
use Rattle.key_set_laws.specs.Stored.{entries_of}
use Rattle.key_set.proofs.chains.walk.Given as goal

abbrev pub invariant-loop-at : goal.invariant-loop-at
invariant-loop-at l = Walking (entries_of l.entries l.table) l.key l.fn.head l.at

abbrev pub decreases-loop-at : goal.decreases-loop-at
decreases-loop-at l = l.at
