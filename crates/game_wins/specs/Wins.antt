-- The first attack that wins under a judgement of positions, edge by edge and case by case.
use Rattle.std.specs.Prelude.{ℕ, Bool, List, Option}
use Rattle.fra.specs.Lists.{first}
use Rattle.fra.specs.declared.Position.{Position}
use Rattle.fra.specs.declared.Task.{Task}
use Rattle.fra.specs.declared.Side.{Side}
use Rattle.fra.specs.declared.Attack.{Attack}
use Rattle.game_moves.specs.AttacksBySide.{edge_attacks, side_attacks}
use Rattle.game_index.specs.Reading.{task_in, rules_in}
use Rattle.game_replies.specs.Winner.{wins_by, winner}

-- the first attack with edge k of side s that wins
abbrev pub edge_win : (Position → Bool) → Task → Position → Side → ℕ → Option Attack
edge_win lost t p s k = first (wins_by t lost p) (edge_attacks t p s k)

-- the first attack of side s that wins
abbrev pub side_win : (Position → Bool) → List ℕ → Position → Side → Option Attack
side_win lost b p s = first (wins_by (task_in b) lost p) (side_attacks (rules_in b) (task_in b) p s)

-- the first attack that wins
abbrev pub first_win : (Position → Bool) → List ℕ → Position → Option Attack
first_win lost b p = winner (rules_in b) (task_in b) lost p
