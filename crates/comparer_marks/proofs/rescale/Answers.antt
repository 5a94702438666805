-- The rounds of one more entry are what the function gives.
use Rattle.std.proofs.Common.{refl, add-one}
use Rattle.comparer_certify_laws.specs.Marking.{changed}
use Rattle.comparer_marks.proofs.rescale.Goals as goal

pub loop-i-init : goal.loop-i-init
unfolding changed
loop-i-init g c = λ f computes. refl

pub loop-i-preserved : goal.loop-i-preserved
unfolding changed
loop-i-preserved g c = λ f computes.
    rw (
      c.put_word.ensures,
      computes _ _ c.rounds_at-rounds.type_inv c.scale.ensures,
      c.rounds_at-rounds.ensures,
      c.of_table-entries.ensures,
      c.loop-i.invariant f computes,
      add-one,
    )
