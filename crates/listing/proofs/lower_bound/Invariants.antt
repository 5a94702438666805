-- The records before `low` have smaller numbers than the sought one, and those from `high` on have not.
use Rattle.std.proofs.Common.{◌-◌}
use Rattle.listing.specs.Listing.{number_at}
use Rattle.listing.proofs.Halving.{Bracket}
use Rattle.listing.proofs.lower_bound.Given as goal

abbrev pub invariant-loop-low : goal.invariant-loop-low
invariant-loop-low l = Bracket (number_at l.records l.list) l.records.count l.sought l.low l.high

abbrev pub decreases-loop-low : goal.decreases-loop-low
decreases-loop-low l = l.high - l.low
