-- The position after a round, from what an edge says of where it leads.
use Rattle.std.specs.Prelude.{ℕ}
use Rattle.fra.specs.Model.{set_of, register_of}
use Rattle.fra.specs.Game.{matched}
use Rattle.fra.specs.declared.Edge.{Edge}
use Rattle.fra.specs.declared.Model.{Model}
use Rattle.fra.specs.declared.Position.{Position}
use Rattle.game_moves.specs.declared.rounds.Target.{Target}

-- where an edge of a model leads
abbrev pub target_of : Model → Edge → Target
target_of m e = record { register = register_of e.kind; state = e.to; set = set_of m e.to }

-- the position after a left and a right edge that lead there have taken one number, where the history then has this size: the
-- game's `moved`
unfoldable pub moved_to : Position → ℕ → Target → Target → Position
moved_to p size l r =
    record {
      left = l.state;
      right = r.state;
      partners = matched l.set r.set l.register r.register 1 p.partners;
      history = size;
    }
