-- The first attack that wins, under any judgement of positions.
use Rattle.std.specs.Prelude.{Bool, true, false, Option, None, Some}
use Rattle.fra.specs.Lists.{all, first}
use Rattle.fra.specs.Rules.{Rules}
use Rattle.fra.specs.Game.{attacks, replies, after}
use Rattle.fra.specs.declared.Position.{Position}
use Rattle.fra.specs.declared.Task.{Task}
use Rattle.fra.specs.declared.Attack.{Attack}

-- every reply to the attack leads to a position that is judged lost
unfoldable pub wins_by : Task → (Position → Bool) → Position → Attack → Bool
wins_by t lost p a = all (λ k. lost (after t p a k)) (replies t p a)

-- 01, "Verdict, table, certificate": "the first in order of side, edge, case whose replies are all lost"
unfoldable pub winner : Rules → Task → (Position → Bool) → Position → Option Attack
winner g t lost p = first (wins_by t lost p) (attacks g t p)

-- there is such an attack
abbrev pub is_found : Option Attack → Bool
is_found None = false
is_found (Some a) = true
