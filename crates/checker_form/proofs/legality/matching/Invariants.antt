-- What is left to test are the partners from place `i` on.
use Rattle.std.proofs.Common.{◌≡◌, ◌+◌, drop}
use Rattle.fra.specs.Position.{matching}
use Rattle.checker_form.proofs.legality.matching.Given as goal

abbrev pub invariant-loop-i : goal.invariant-loop-i
invariant-loop-i l = matching l.left l.right 1 l.partners ≡ matching l.left l.right (l.i + 1) (drop l.i l.partners)
