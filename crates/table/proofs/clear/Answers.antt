-- The slice is filled with zeros.
use Rattle.outcome.specs.Bytes.{cleared}
use Rattle.table.proofs.clear.Goals as goal

pub returns : goal.returns
unfolding cleared
returns c = c.fill.ensures.after (λ y e. e)
