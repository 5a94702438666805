-- A right edge adds its pair exactly if it leads into the set.
use Rattle.std.proofs.Common.{◌∙◌, add-one}
use Rattle.comparer_rank_laws.specs.Sources.{with_pairs}
use Rattle.comparer_state_pairs.proofs.add_sources.Goals as goal
use Rattle.comparer_state_pairs.proofs.add_sources.Goals.{then-leads_into, else-leads_into}

pub loop-j-preserved : goal.loop-j-preserved
unfolding with_pairs
loop-j-preserved c =
    let leads = rw c.edge_at-f.ensures at c.leads_into.ensures in
    elim c.if-leads_into.branch [
      | then-leads_into w ↦
          w.pairs-is
          ∙ w.add.ensures
          ∙ rw (add-one, ← leads, w.if-leads_into.true, c.loop-j.invariant, c.edge_at-f.ensures)
      | else-leads_into w ↦ w.pairs-is ∙ rw (add-one, ← leads, w.if-leads_into.false) c.loop-j.invariant
    ]
