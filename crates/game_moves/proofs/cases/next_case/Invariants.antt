-- The answer is the one from number `n` on.
use Rattle.std.proofs.Common.{◌≡◌}
use Rattle.game_moves.specs.IdCases.{case_from}
use Rattle.game_moves.proofs.cases.next_case.Given as goal

abbrev pub invariant-loop-n : goal.invariant-loop-n
invariant-loop-n l = case_from l.others l.room l.p l.side l.kind l.from ≡ case_from l.others l.room l.p l.side l.kind l.n
