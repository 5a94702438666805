-- Positions can be looked up all the while, and each pass is the next that is left.
use Rattle.std.proofs.Common.{◌≡◌, sym, ◌∙◌, refl, arith}
use Rattle.comparer_certify_laws.specs.Marking.{marking}
use Rattle.comparer_certify_laws.proofs.Marking.{marking_step}
use Rattle.comparer_certify_laws.proofs.StillSearchable.{kept_refl, kept_trans, kept-passed, searchable-kept}
use Rattle.comparer_leads.proofs.mark_down.Goals as goal

pub loop-k-init : goal.loop-k-init
loop-k-init c = record { kept = kept_refl _ _; left = refl }

pub pass-requires-clause-searchable : goal.pass-requires-clause-searchable
pass-requires-clause-searchable c = searchable-kept c.requires.searchable c.loop-k.invariant.kept

pub loop-k-preserved : goal.loop-k-preserved
loop-k-preserved c = record {
  kept = kept_trans c.loop-k.invariant.kept (rw c.pass.ensures (kept-passed _ _ _ _ _ c.loop-k.table));
  left = rw c.pass.ensures (sym (marking_step _ _ _ _ c.loop-k.table (omega arith)) ∙ c.loop-k.invariant.left);
}

pub returns : goal.returns
unfolding marking
returns c =
    let down : c.loop-k.k ≡ 0 = omega arith in
    rw down at c.loop-k.invariant.left
