-- By whether the start is lost.
use borrow.Author.Tests.{eq-eqb, ne_eqb}
use Rattle.outcome.specs.Bytes.{all_ones}
use Rattle.outcome.specs.Compare.{decided}
use Rattle.comparer.proofs.decided.Goals as goal
use Rattle.comparer.proofs.decided.Goals.{then-rounds-eq-NEVER, else-rounds-eq-NEVER}

pub returns : goal.returns
unfolding decided
returns c =
    elim c.if-rounds-eq-NEVER.branch [
      | then-rounds-eq-NEVER w ↦ rw (c.of.ensures, w.standing-is, eq-eqb c.args.rounds all_ones w.if-rounds-eq-NEVER.true)
      | else-rounds-eq-NEVER w ↦ rw (c.of.ensures, w.standing-is, ne_eqb c.args.rounds all_ones w.if-rounds-eq-NEVER.false)
    ]
