-- A turn writes the last digit of what is to come.
use Rattle.text.proofs.Spelling.{spelled_none, spelled_more, spelled_all}
use Rattle.text.proofs.numbers.put_digits.Goals as goal

pub loop-i-init : goal.loop-i-init
loop-i-init c = rw c.requires.0 (spelled_none c.args.n c.args.line.now c.args.at)

pub loop-i-preserved : goal.loop-i-preserved
loop-i-preserved c = rw c.digit.ensures (spelled_more c.loop-i.invariant c.loop-i-test.true)

pub returns : goal.returns
returns c = spelled_all c.loop-i.invariant c.loop-i-test.false
