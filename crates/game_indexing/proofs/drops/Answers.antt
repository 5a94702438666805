use Rattle.std.proofs.Common.{sym, ◌∙◌, arith}
use native.Mathlib.Nat.{sub-zero}
use Rattle.game_indexing.proofs.AnyFromOne.{any_here, any-later, any-end}
use Rattle.game_indexing.proofs.drops.Invariants.{drop-test}
use Rattle.game_indexing.proofs.drops.Goals as goal

pub loop-i-init : goal.loop-i-init
loop-i-init c = rw (sub-zero c.args.registers)

pub returns-then-dropped : goal.returns-then-dropped
returns-then-dropped c =
    let a = c.args in
    let f = drop-test a.set a.added a.other in
    sym (c.loop-i.invariant ∙ any_here f c.loop-i.i a.registers (omega arith) (sym c.dropped.ensures ∙ c.if-dropped.true))

pub loop-i-preserved : goal.loop-i-preserved
loop-i-preserved c =
    let a = c.args in
    let f = drop-test a.set a.added a.other in
    c.loop-i.invariant ∙ any-later f c.loop-i.i a.registers (omega arith) (sym c.dropped.ensures ∙ c.if-dropped.false)

pub returns : goal.returns
returns c =
    let a = c.args in
    sym (c.loop-i.invariant ∙ any-end (drop-test a.set a.added a.other) c.loop-i.i a.registers (omega arith))
