-- A right edge's keys are wanted where it can take one number with the left edge.
use Rattle.std.proofs.Common.{ℕ, List, refl, sym, ◌∙◌}
use Rattle.std.proofs.lemmas.Result.{err_from_is_err_and}
use Rattle.fra.specs.declared.Side.TheVariants.{Right}
use Rattle.fra_laws.proofs.Tests.{not_both}
use Rattle.game_index.specs.Reading.{model_in}
use Rattle.game_index.specs.Transitions.{transition_of}
use Rattle.game_index.specs.declared.Transition.{Transition}
use Rattle.comparer_explore_laws.specs.EdgeKeys.{PairKey}
use Rattle.key_set_laws.proofs.Growth.{completes_none, passed-next, passed_overflows, passed-all}
use Rattle.comparer_explore.specs.declared.expand.Source.{Source}
use Rattle.comparer_explore.proofs.expand.visit_edges.Goals as goal
use Rattle.comparer_explore.proofs.expand.visit_edges.Goals.{then-joint+in_ok-m, else-joint}

-- what is wanted of a right edge
abbrev wanted : Source → Transition → List ℕ → ℕ → ℕ → Type 0
wanted s left index k = PairKey s.radix s.room s.position left (transition_of (model_in index Right) k)

pub visit_pair-requires-clause-summed : goal.visit_pair-requires-clause-summed
visit_pair-requires-clause-summed c =
    λ e rest has.
    rw c.transition_at-right.ensures
    (c.requires.halves.1.sums c.loop-k.k c.loop-k.invariant.from c.loop-k-test.true (sym c.drops_at-drops.ensures ∙ e) rest has)

pub returns-in_err-m : goal.returns-in_err-m
returns-in_err-m c =
    let a = c.args in
    let p = err_from_is_err_and c.from_residual.result c.from_residual.ensures.1 in
    rw p.1
    (passed_overflows a.edges.first a.edges.end (wanted a.source a.half.edge a.index.now.bytes) c.loop-k-test.true c.loop-k.invariant
    (rw c.transition_at-right.ensures at c.in_err-m.ensures))

pub loop-k-preserved : goal.loop-k-preserved
loop-k-preserved c =
    let a = c.args in
    let inv = c.loop-k.invariant in
    passed-next a.edges.first a.edges.end (wanted a.source a.half.edge a.index.now.bytes) c.loop-k-test.true inv
    (elim c.if-joint.branch [
      | then-joint+in_ok-m w ↦ rw (w.table-is, w.m-is) (rw c.transition_at-right.ensures at w.in_ok-m.ensures)
      | else-joint w ↦
          let apart = rw c.transition_at-right.ensures at (sym (c.joint.ensures a.source.position refl) ∙ w.if-joint.false) in
          rw (w.table-is, w.m-is) (completes_none inv.visited.grows.stored (λ k v. not_both _ v.0 apart))
    ])

pub returns : goal.returns
returns c =
    let a = c.args in
    passed-all a.edges.first a.edges.end (wanted a.source a.half.edge a.index.now.bytes) c.loop-k-test.false c.loop-k.invariant
