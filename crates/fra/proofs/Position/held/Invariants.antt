-- So many registers of both sides are counted, from the first on.
use Rattle.std.proofs.Common.{◌≡◌, ◌*◌, ◌≤◌}
use Rattle.fra.proofs.HeldNumbers.{held_up_to}
use Rattle.fra.proofs.Position.held.Given as goal

abbrev pub invariant-loop-counted : goal.invariant-loop-counted
invariant-loop-counted l = (l.held ≤ 2 * l.counted) × (l.held ≡ held_up_to l.left l.right l.self.partners l.counted)
