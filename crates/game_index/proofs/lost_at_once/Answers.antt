-- the game judges the end marks of both states
use Rattle.fra.specs.Game.{lost_at_once}
use Rattle.game_index.specs.Reading.{task_in}
use Rattle.game_index.proofs.lost_at_once.Goals as goal

pub returns : goal.returns
unfolding lost_at_once task_in
returns c =
    rw (c.game-game.ensures, c.mark_of-right.ensures, c.mark_of-left.ensures) at c.loses.ensures
