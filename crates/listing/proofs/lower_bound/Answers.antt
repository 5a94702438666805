use Rattle.std.proofs.Common.{arith}
use Rattle.listing.specs.Listing.{number_at}
use Rattle.listing.proofs.PositionNumbers.{numbers_rise}
use Rattle.listing.proofs.Halving.{bracket_up, bracket_down}
use Rattle.listing.proofs.lower_bound.Goals as goal

pub loop-low-preserved-then-below : goal.loop-low-preserved-then-below
loop-low-preserved-then-below c =
    let a = c.args in
    let number = number_at a.records a.list.now in
    let rises = numbers_rise a.records a.list.now (λ i. (c.type_inv.list i).fits) c.requires in
    bracket_up number a.records.count rises a.sought c.loop-low.low c.loop-low.high _ c.loop-low.invariant (omega arith)
    (omega arith)
    (rw c.number_at.ensures at c.if-below.true)

pub loop-low-preserved : goal.loop-low-preserved
loop-low-preserved c =
    let a = c.args in
    let number = number_at a.records a.list.now in
    let rises = numbers_rise a.records a.list.now (λ i. (c.type_inv.list i).fits) c.requires in
    bracket_down number a.records.count rises a.sought c.loop-low.low c.loop-low.high _ c.loop-low.invariant (omega arith)
    (omega arith)
    (rw c.number_at.ensures at c.if-below.false)
