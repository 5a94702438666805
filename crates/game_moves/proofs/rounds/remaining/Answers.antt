-- A number times a test is the number where the test passes, else 0.
use Rattle.std.proofs.Common.{◌&&◌}
use Rattle.game_moves.proofs.TestBytes.{times_test}
use Rattle.fra.specs.Registers.{has}
use Rattle.fra.specs.Game.{remaining}
use Rattle.game_moves.proofs.rounds.remaining.Goals as goal

pub returns : goal.returns
unfolding remaining
returns c =
    let a = c.args in
    rw (c.from.ensures, c.has.ensures, c.has-2.ensures) (times_test (has a.left a.i && has a.right a.x) a.x)
