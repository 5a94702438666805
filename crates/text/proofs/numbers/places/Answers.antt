-- One digit more than the power of ten that is no greater; 0 has one.
use Rattle.std.proofs.Common.{ap, sym, length, arith}
use Rattle.text.proofs.Decimals.{decimal_last, digits-between}
use Rattle.text.proofs.numbers.places.Goals as goal

pub returns-in-Some : goal.returns-in-Some
returns-in-Some c = digits-between c.in-Some.k c.args.n c.in-Some.ensures.power_le c.in-Some.ensures.next_power_gt

pub returns-in-None : goal.returns-in-None
returns-in-None c = rw c.in-None.ensures.none (sym (ap length (decimal_last 0 (omega arith))))
