-- The partner is the one found from place `i` on.
use Rattle.std.proofs.Common.{◌≡◌, ◌+◌, drop}
use Rattle.fra.specs.Position.{left_partner}
use Rattle.fra.proofs.left_partner.Given as goal

abbrev pub invariant-loop-i : goal.invariant-loop-i
invariant-loop-i l = left_partner 1 l.partners l.j ≡ left_partner (l.i + 1) (drop l.i l.partners) l.j
