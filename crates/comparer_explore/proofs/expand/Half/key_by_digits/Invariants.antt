-- The key is what the digits from register `i` on continue.
use Rattle.comparer_explore_laws.proofs.RoundKeys.{Continues}
use Rattle.comparer_explore.proofs.RoundDigits.{digits, states}
use Rattle.comparer_explore.proofs.expand.Half.key_by_digits.Given as goal

abbrev pub invariant-loop-i : goal.invariant-loop-i
invariant-loop-i l = Continues (states l.fn.radix l.fn.self l.fn.right) (digits l.fn.radix l.fn.self l.fn.right) l.front l.i
