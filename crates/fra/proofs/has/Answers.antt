-- A set of one byte has no register past the eighth.
use Rattle.std.proofs.Common.{rules, sym, arith}
use Rattle.fra.specs.Registers.{has}
use Rattle.fra.proofs.RegisterSets.{has_none, has_bit}
use Rattle.fra.proofs.has.Goals as goal

pub returns-then-i-eq0 : goal.returns-then-i-eq0
unfolding has
returns-then-i-eq0 c = search rules

pub returns-then-i-gt-BITS : goal.returns-then-i-gt-BITS
returns-then-i-gt-BITS c = sym (has_none c.args.set c.args.i (omega arith) (omega arith))

pub returns : goal.returns
returns c = sym (has_bit c.args.set c.args.i (omega arith))
