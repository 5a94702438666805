-- An entry's pair is added exactly if its rounds are between the two numbers.
use Rattle.std.proofs.Common.{◌∙◌, add-one}
use Rattle.comparer_rank_laws.specs.Sources.{with_pairs}
use Rattle.comparer_state_pairs.proofs.lost_pairs.Goals as goal
use Rattle.comparer_state_pairs.proofs.lost_pairs.Goals.{then-between, else-between}

pub loop-i-preserved : goal.loop-i-preserved
unfolding with_pairs
loop-i-preserved c =
    let listed = c.of_table-entries.ensures in
    let inside = rw (c.rounds_at.ensures, listed) at c.between.ensures in
    elim c.if-between.branch [
      | then-between w ↦
          w.lost-is
          ∙ w.add.ensures
          ∙ rw (add-one, ← inside, w.if-between.true, c.loop-i.invariant, w.position_at-p.ensures, listed)
      | else-between w ↦ w.lost-is ∙ rw (add-one, ← inside, w.if-between.false) c.loop-i.invariant
    ]
