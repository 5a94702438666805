-- One byte more.
use native.Mathlib.Numerals.{add-one}
use Rattle.text.proofs.Stores.{sets_next}
use Rattle.text.proofs.widened.Goals as goal

pub loop-i-preserved : goal.loop-i-preserved
loop-i-preserved g c = rw (c.loop-i.invariant, c.from.ensures, add-one) (sets_next _ c.args.bytes.now c.loop-i.i c.loop-i-test.true)
