-- An attack as its replies see it.
use Rattle.std.specs.Prelude.{length}
use Rattle.fra.specs.Model.{register_of}
use Rattle.fra.specs.Rules.{other, left_of, right_of, model_of}
use Rattle.fra.specs.Position.{state_of, partner}
use Rattle.fra.specs.Game.{attack_edge, size_after}
use Rattle.fra.specs.declared.Position.{Position}
use Rattle.fra.specs.declared.Task.{Task}
use Rattle.fra.specs.declared.IdCase.{IdCase}
use Rattle.fra.specs.declared.Attack.{Attack}
use Rattle.game_moves.specs.AfterRound.{moved_to, target_of}
use Rattle.game_moves.specs.declared.rounds.Target.{Target}
use Rattle.game_index.specs.Ranges.{tag_range}
use Rattle.game_replies.specs.declared.Challenge.{Challenge}

-- what an attack asks
abbrev pub challenge_of : Task → Position → Attack → Challenge
challenge_of t p a =
    record {
      side = a.side;
      edge = a.edge;
      case = a.case;
      target = target_of (model_of t a.side) (attack_edge t a);
      partner = partner p a.side (register_of (attack_edge t a).kind);
      edges = tag_range (model_of t (other a.side)) (state_of p (other a.side)) (attack_edge t a).tag;
    }

-- the attack that asks it
abbrev pub attack_of : Challenge → Attack
attack_of c = record { side = c.side; edge = c.edge; case = c.case }

-- the same edge in another id case
abbrev pub in_case : Challenge → IdCase → Challenge
in_case c case =
    record {
      side = c.side;
      edge = c.edge;
      case = case;
      target = c.target;
      partner = c.partner;
      edges = c.edges;
    }

-- the position after a reply that leads there: the id case says what becomes of the history's size
unfoldable pub after_reply : Challenge → Position → Target → Position
after_reply c p reply =
    moved_to p (size_after (length p.partners) c.case p.history) (left_of c.side c.target reply)
    (right_of c.side c.target reply)
