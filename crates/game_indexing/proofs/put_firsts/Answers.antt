use Rattle.std.proofs.Common.{◌≡◌, refl, ◌∙◌, suc, ◌+◌, rules, arith, length}
use Rattle.fra.specs.Lists.{count}
use Rattle.fra.specs.Model.{edge_of}
use Rattle.fra_laws.proofs.Lengths.{length-of-map}
use Rattle.game_index.specs.Layout.{codes, size}
use Rattle.game_index.specs.Writing.{Sized}
use Rattle.game_index.proofs.EdgeRanges.{code_bound}
use Rattle.game_indexing.proofs.Appended.{put_mid-filled}
use Rattle.game_indexing.proofs.FirstEdges.{passed_none, passed-more, firsts_more}
use Rattle.game_indexing.proofs.put_firsts.Goals as goal

pub loop-k-init : goal.loop-k-init
unfolding count
loop-k-init c = (passed_none c.args.m, refl)

pub overflow_add-at-in-loop-k : goal.overflow_add-at-in-loop-k
unfolding edge_of
overflow_add-at-in-loop-k c =
    let sized : Sized c.args.m = record { states = search (rules, length-of-map); edges = search (rules, length-of-map) } in
    omega (arith, c.code_of-end.ensures, code_bound c.requires.indexable_model sized c.loop-k.k (omega arith))

pub slice_bounds-fill-count : goal.slice_bounds-fill-count
unfolding edge_of
slice_bounds-fill-count c = omega (arith, c.code_of-end.ensures, c.loop-k.invariant.0.ahead (omega arith))

pub slice_bounds-fill-start : goal.slice_bounds-fill-start
unfolding edge_of
slice_bounds-fill-start c =
    let sized : Sized c.args.m = record { states = search (rules, length-of-map); edges = search (rules, length-of-map) } in
    let few = code_bound c.requires.indexable_model sized c.loop-k.k (omega arith) in
    omega (arith, c.code_of-end.ensures, few, c.loop-k.invariant.0.ahead (omega arith))

pub slice_bounds-fill-end : goal.slice_bounds-fill-end
unfolding edge_of
slice_bounds-fill-end c =
    let sized : Sized c.args.m = record { states = search (rules, length-of-map); edges = search (rules, length-of-map) } in
    omega (arith, c.code_of-end.ensures, code_bound c.requires.indexable_model sized c.loop-k.k (omega arith))

pub loop-k-preserved : goal.loop-k-preserved
unfolding edge_of
loop-k-preserved c =
    let a = c.args in
    let k = c.loop-k.k in
    let long : length c.loop-k.out ≡ size = search rules in
    let sized : Sized a.m = record { states = search (rules, length-of-map); edges = search (rules, length-of-map) } in
    let (passed, done) = c.loop-k.invariant in
    let code = c.code_of-end.ensures in
    let few = code_bound c.requires.indexable_model sized k (omega arith) in
    let less = passed.ahead (omega arith) in (
      rw code (passed-more passed c.requires.indexable_model sized (omega arith)),
      put_mid-filled (a.at + c.loop-k.next) _ c.loop-k.out c.fill.new.self k (c.fill.ensures.after (λ y e. e)) (omega arith)
          ∙ rw (done, code) (firsts_more passed a.out.now a.at _ less (λ h. omega arith)),
    )

pub returns : goal.returns
returns c =
    let a = c.args in
    let long : length c.loop-k.out ≡ size = search rules in
    let (passed, done) = c.loop-k.invariant in
    let all : c.loop-k.k ≡ a.m.edge_count = omega arith in
    let end : a.at + codes + 1 ≡ a.at + suc codes = omega arith in
    let filled = rw (← all) at (c.fill-2.ensures.after (λ y e. e)) in
    put_mid-filled (a.at + c.loop-k.next) _ c.loop-k.out c.fill-2.new.self c.loop-k.k filled (omega (arith, passed.codes_few))
    ∙ rw (done, end) (firsts_more passed a.out.now a.at (suc codes) (omega (arith, passed.codes_few)) (λ h. absurd (omega arith)))
