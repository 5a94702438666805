-- Where the tags are equal, the set decides.
use Rattle.std.proofs.Common.{eq-eqb}
use Rattle.comparer_state_pairs.proofs.leads_into.Goals as goal

pub returns-then-e-f : goal.returns-then-e-f
returns-then-e-f c = rw (eq-eqb _ _ c.if-e-f.true) c.has.ensures
