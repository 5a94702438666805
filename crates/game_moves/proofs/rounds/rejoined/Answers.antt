use Rattle.std.proofs.Common.{rules, tests}
use Rattle.fra.specs.Game.{rejoined}
use Rattle.game_moves.proofs.rounds.rejoined.Goals as goal

pub returns-then-i-a : goal.returns-then-i-a
unfolding rejoined
returns-then-i-a c = search (tests, rules)

pub returns-then-x-b : goal.returns-then-x-b
unfolding rejoined
returns-then-x-b c = search (tests, rules)

pub returns-else-x-b : goal.returns-else-x-b
unfolding rejoined
returns-else-x-b c = search (tests, rules)
