-- What is wanted of the right edges that are visited is what is wanted of the left edge.
use Rattle.std.proofs.Common.{ℕ, ◌≤◌, ◌<◌, ◌≡◌, Bool, false, List, refl, sym, ◌∙◌, ap, subst}
use Rattle.std.specs.Prelude.{Result, Ok, Err}
use Rattle.std.proofs.lemmas.Result.{err_from_is_err_and}
use Rattle.fra.specs.Position.{has_room}
use Rattle.fra.specs.Model.{edge_of}
use Rattle.fra.specs.declared.Side.TheVariants.{Left}
use Rattle.game_index.specs.Reading.{model_in, task_in}
use Rattle.game_index.specs.Ranges.{state_range}
use Rattle.game_index.specs.Transitions.{transition_of}
use Rattle.game_index.specs.Writing.{drops}
use Rattle.game_index.specs.Writing.{Index}
use Rattle.game_index.specs.declared.Range.{Range}
use Rattle.game_index.specs.declared.Transition.{Transition}
use Rattle.table_keys.specs.declared.Radix.{Radix}
use Rattle.table_keys.specs.Keys.{radix_of, Fits}
use Rattle.table_keys.proofs.Keys.{radix_sized, legal-fits}
use Rattle.key_set.specs.declared.Full.{Full}
use Rattle.key_set_laws.proofs.Growth.{completes_as, overflows_as, passed-next, passed_overflows, passed-all}
use Rattle.comparer_explore_laws.specs.EdgeKeys.{RangeKey, RangeFits, tagged, EdgeKey}
use Rattle.comparer_explore_laws.specs.Exploring.{Expandable}
use Rattle.comparer_explore_laws.proofs.EdgeKeys.{edges_of-successors, successors-of-edges, edges_fit}
use Rattle.comparer_explore.specs.ExploreAnswers.{Visited}
use Rattle.comparer_explore.specs.HalfRounds.{Undropped}
use Rattle.comparer_explore.specs.Sources.{source_of, Keyed}
use Rattle.comparer_explore.specs.declared.expand.Source.{Source}
use Rattle.comparer_explore.proofs.EdgeSums.{left-place, left_undropped, range_summed}
use Rattle.comparer_explore.proofs.expand.visit_successors.Goals as goal
use Rattle.comparer_explore.proofs.expand.visit_successors.Goals.{After-tagged-others}

-- the source is as the task has it
module _ (b : List ℕ) (s : Source) (index : Index b) (e : s ≡ source_of (task_in b) s.position) (expandable : Expandable (task_in b) s.position)
  where
    keyed : Keyed s
    keyed = rw e (record { sized = radix_sized index; count = refl })

    radix_is : s.radix ≡ radix_of (task_in b)
    radix_is = ap (λ (z : Source). z.radix) e

    room_is : s.room ≡ has_room (task_in b) s.position
    room_is = ap (λ (z : Source). z.room) e

    fits : Fits s.radix s.position
    fits =
        subst (λ (x : Radix). Fits x s.position) (sym radix_is)
        (legal-fits (task_in b) s.position index.indexable.valid expandable.legal expandable.least)

    -- a left edge's own keys, by what is read of the index
    visited : (k : ℕ) (left : Transition) (others : Range) → left ≡ transition_of (model_in b Left) k → others ≡ tagged b s.position k
        → (n : ℕ) (old : List ℕ) (r : Result ℕ Full) (new : List ℕ)
        → Visited s.keys (RangeKey b s.radix s.room s.position left others) n old r new
        → Visited s.keys (EdgeKey b s.position k) n old r new
    visited k left others l o n old r new v = rw (l, o, radix_is, room_is) at v

    range_fits : (k : ℕ) → (state_range (model_in b Left) s.position.left).first ≤ k → k < (state_range (model_in b Left) s.position.left).end
        → RangeFits b s.radix s.room s.position (transition_of (model_in b Left) k) (tagged b s.position k)
    range_fits k first end =
        let left = transition_of (model_in b Left) k in
        let tags = tagged b s.position k in
        subst (λ (x : Radix). RangeFits b x s.room s.position left tags) (sym radix_is)
        (subst (λ (r : Bool). RangeFits b (radix_of (task_in b)) r s.position left tags) (sym room_is)
        (edges_fit index s.position expandable.legal expandable.least k first end))

    undropped : (k : ℕ) → (state_range (model_in b Left) s.position.left).first ≤ k → k < (state_range (model_in b Left) s.position.left).end
        → drops (model_in b Left) (edge_of (model_in b Left) k) ≡ false
        → Undropped s.radix s.position (transition_of (model_in b Left) k).target
    undropped k first end keeps =
        subst (λ (x : Radix). Undropped x s.position (transition_of (model_in b Left) k).target) (sym radix_is)
        (left_undropped index s.position expandable.legal k first end keeps)

-- the left edge is one of those of the position's left state
first : (c : After-tagged-others) → (state_range (model_in c.args.index.now.bytes Left) c.args.source.position.left).first ≤ c.loop-k.k
first c = subst (λ (r : Range). r.first ≤ c.loop-k.k) c.edges_of-edges.ensures c.loop-k.invariant.from

end : (c : After-tagged-others) → c.loop-k.k < (state_range (model_in c.args.index.now.bytes Left) c.args.source.position.left).end
end c = subst (λ (r : Range). c.loop-k.k < r.end) c.edges_of-edges.ensures c.loop-k-test.true

-- the right edges that have its tag
others_are : (c : After-tagged-others) → c.tagged-others.result ≡ tagged c.args.index.now.bytes c.args.source.position c.loop-k.k
others_are c = rw c.edge_at-e.ensures at c.tagged-others.ensures

pub of-sums-requires : goal.of-sums-requires
of-sums-requires c =
    let a = c.args in
    let (e, x) = c.requires.source_value in
    ((keyed a.index.now.bytes a.source a.index.now.of_a_task e x).sized, fits a.index.now.bytes a.source a.index.now.of_a_task e x)

pub drops_at-drops-requires : goal.drops_at-drops-requires
drops_at-drops-requires c =
    let at = (goal.at.drops_at-drops-requires c).After-tagged-others in
    left-place c.args.index.now.of_a_task c.args.source.position c.requires.source_value.1.legal c.loop-k.k (first at) (end at)

pub of-half-requires-clause-sized : goal.of-half-requires-clause-sized
of-half-requires-clause-sized c =
    let a = c.args in
    let (e, x) = c.requires.source_value in
    ((keyed a.index.now.bytes a.source a.index.now.of_a_task e x).sized, fits a.index.now.bytes a.source a.index.now.of_a_task e x, c.of-sums.ensures)

pub of-half-requires-clause-undropped : goal.of-half-requires-clause-undropped
of-half-requires-clause-undropped c =
    let a = c.args in
    let (e, x) = c.requires.source_value in
    let at = (goal.at.of-half-requires-clause-undropped c).After-tagged-others in
    λ d.
    rw c.transition_at-left.ensures
    (undropped a.index.now.bytes a.source a.index.now.of_a_task e x c.loop-k.k (first at) (end at) (sym c.drops_at-drops.ensures ∙ d))

pub visit_edges-requires-clause-stored : goal.visit_edges-requires-clause-stored
visit_edges-requires-clause-stored c =
    let (e, x) = c.requires.source_value in
    (c.loop-k.invariant.visited.grows.stored, keyed c.args.index.now.bytes c.args.source c.args.index.now.of_a_task e x)

pub visit_edges-requires-clause-halves : goal.visit_edges-requires-clause-halves
visit_edges-requires-clause-halves c =
    let half = c.of-half.ensures.half in (
      half.halves,
      rw c.tagged-others.ensures
          (range_summed c.args.index.now.of_a_task c.args.source.position c.requires.source_value.1.legal c.edge_at-e.result.tag half),
    )

pub visit_edges-requires-clause-range_fits : goal.visit_edges-requires-clause-range_fits
visit_edges-requires-clause-range_fits c =
    let a = c.args in
    let (e, x) = c.requires.source_value in
    let at = (goal.at.visit_edges-requires-clause-range_fits c).After-tagged-others in
    let left = c.of-half.ensures.edge ∙ c.transition_at-left.ensures in
    subst (λ (r : Range). RangeFits a.index.now.bytes a.source.radix a.source.room a.source.position c.of-half.result.edge r) (sym (others_are at))
    (subst
    (λ (t : Transition). RangeFits a.index.now.bytes a.source.radix a.source.room a.source.position t (tagged a.index.now.bytes a.source.position c.loop-k.k))
    (sym left)
    (range_fits a.index.now.bytes a.source a.index.now.of_a_task e x c.loop-k.k (first at) (end at)))

pub returns-in_err-m : goal.returns-in_err-m
returns-in_err-m c =
    let a = c.args in
    let (e, x) = c.requires.source_value in
    let at = (goal.at.returns-in_err-m c).After-tagged-others in
    let left = c.of-half.ensures.edge ∙ c.transition_at-left.ensures in
    let p = err_from_is_err_and c.from_residual.result c.from_residual.ensures.1 in
    let edges = c.edges_of-edges.result in
    let overflows =
    passed_overflows edges.first edges.end (EdgeKey a.index.now.bytes a.source.position) c.loop-k-test.true c.loop-k.invariant
    (visited a.index.now.bytes a.source a.index.now.of_a_task e x c.loop-k.k c.of-half.result.edge c.tagged-others.result left (others_are at)
    c.loop-k.m c.loop-k.table (Err (record {})) c.visit_edges.new.table c.in_err-m.ensures) in
    rw p.1
    (overflows_as (successors-of-edges c.args.index.now.of_a_task a.source.position x.legal) (rw c.edges_of-edges.ensures at overflows))

pub loop-k-preserved : goal.loop-k-preserved
loop-k-preserved c =
    let a = c.args in
    let (e, x) = c.requires.source_value in
    let at = (goal.at.loop-k-preserved c).After-tagged-others in
    let left = c.of-half.ensures.edge ∙ c.transition_at-left.ensures in
    let edges = c.edges_of-edges.result in
    passed-next edges.first edges.end (EdgeKey a.index.now.bytes a.source.position) c.loop-k-test.true c.loop-k.invariant
    (visited a.index.now.bytes a.source a.index.now.of_a_task e x c.loop-k.k c.of-half.result.edge c.tagged-others.result left (others_are at)
    c.loop-k.m c.loop-k.table (Ok c.in_ok-m.m) c.visit_edges.new.table c.in_ok-m.ensures)

pub returns : goal.returns
returns c =
    let a = c.args in
    let x = c.requires.source_value.1 in
    let edges = c.edges_of-edges.result in
    let completes =
    passed-all edges.first edges.end (EdgeKey a.index.now.bytes a.source.position) c.loop-k-test.false c.loop-k.invariant in
    completes_as (successors-of-edges c.args.index.now.of_a_task a.source.position x.legal)
    (edges_of-successors c.args.index.now.of_a_task a.source.position x.legal) (rw c.edges_of-edges.ensures at completes)
