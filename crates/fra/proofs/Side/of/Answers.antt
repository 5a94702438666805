use Rattle.std.proofs.Common.{tests, rules}
use Rattle.fra.specs.AttackNumbers.{side_of}
use Rattle.fra.proofs.Side.of.Goals as goal

pub returns-in-1 : goal.returns-in-1
unfolding side_of
returns-in-1 c = rw c.in-1.is

pub returns-in-2 : goal.returns-in-2
unfolding side_of
returns-in-2 c = rw c.in-2.is

pub returns-in_default : goal.returns-in_default
unfolding side_of
returns-in_default c = search (tests, rules)
