-- The digits from `i` on are written.
use Rattle.text.proofs.Spelling.{Spelled}
use Rattle.text.proofs.numbers.put_digits.Given as goal

abbrev pub invariant-loop-i : goal.invariant-loop-i
invariant-loop-i l = Spelled l.n l.initial.line l.at l.i l.rest l.line
