-- The attacks of a position, side by side, edge by edge and case by case.
use Rattle.std.specs.Prelude.{ℕ, Bool, ◌&&◌, length, eqb}
use mathlib.Core.List.{List, map, flat_map}
use Rattle.fra.specs.Lists.{keep, count}
use Rattle.fra.specs.Model.{edge_of}
use Rattle.fra.specs.Rules.{Rules, model_of}
use Rattle.fra.specs.Position.{state_of}
use Rattle.fra.specs.Game.{has_case, cases}
use Rattle.fra.specs.declared.Position.{Position}
use Rattle.fra.specs.declared.Task.{Task}
use Rattle.fra.specs.declared.Side.{Side}
use Rattle.fra.specs.declared.Attack.{Attack}

-- the attacks of edge number k of side s, which starts in its state
abbrev pub edge_attacks : Task → Position → Side → ℕ → List Attack
edge_attacks t p s k =
    map (λ c. record { side = s; edge = k; case = c })
    (keep (has_case t p s (edge_of (model_of t s) k).kind) (cases (length p.partners)))

-- edge number k of side s is one to attack with
abbrev pub attacking : Rules → Task → Position → Side → ℕ → Bool
attacking g t p s k = g.attacks s && eqb (edge_of (model_of t s) k).from (state_of p s)

-- the attacks of side s
abbrev pub side_attacks : Rules → Task → Position → Side → List Attack
side_attacks g t p s = flat_map (edge_attacks t p s) (keep (attacking g t p s) (count 0 (model_of t s).edge_count))
