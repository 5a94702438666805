-- The partners are those after the round up to place `i`.
use Rattle.std.proofs.Common.{◌≡◌, length, take}
use Rattle.fra.specs.Game.{matched}
use Rattle.game_moves.proofs.rounds.moved.Given as goal

abbrev pub invariant-loop-i : goal.invariant-loop-i
invariant-loop-i l =
    (length l.partners ≡ 6)
    × (take l.i l.partners ≡ take l.i (matched l.left.set l.right.set l.left.register l.right.register 1 l.p.partners))
