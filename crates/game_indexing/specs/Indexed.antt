-- What is read from the index of a task and a game: these two.
use Rattle.std.specs.Prelude.{ℕ, ◌≡◌, List}
use Rattle.fra.specs.declared.Task.{Task}
use Rattle.fra.specs.declared.Game.{Game}
use Rattle.game_index.specs.Reading.{task_in, game_in}
use Rattle.game_index.specs.Writing.{Index}

pub record Indexed (t : Task) (g : Game) (b : List ℕ) : Type 0 where
  pub index : Index b
  pub task : task_in b ≡ t
  pub game : game_in b ≡ g
