-- The replies to an attack, from an edge of the other side's model on.
use Rattle.std.specs.Prelude.{ℕ, ◌-◌, List, Option, None, Some}
use Rattle.fra.specs.Lists.{keep, count, least}
use Rattle.fra.specs.Model.{edge_of}
use Rattle.fra.specs.Rules.{other, model_of}
use Rattle.fra.specs.Game.{is_reply}
use Rattle.fra.specs.declared.Model.{Model}
use Rattle.fra.specs.declared.Position.{Position}
use Rattle.fra.specs.declared.Task.{Task}
use Rattle.fra.specs.declared.Attack.{Attack}
use Rattle.game_moves.specs.AfterRound.{target_of}
use Rattle.game_replies.specs.declared.Reply.{Reply}

-- the model of the side that replies
abbrev pub replier : Task → Attack → Model
replier t a = model_of t (other a.side)

-- the replies from edge number k on
unfoldable pub replies_from : Task → Position → Attack → ℕ → List ℕ
replies_from t p a k = keep (is_reply t p a) (count k ((replier t a).edge_count - k))

-- an edge that was found, as the answer: "its edge number besides where it leads"
abbrev pub reply_answer : Model → Option ℕ → Option Reply
reply_answer m None = None
reply_answer m (Some k) = Some (record { edge = k; target = target_of m (edge_of m k) })

-- the first of them. 02, ticket 5: "of several the lowest number first, and none is reported exactly if none is left"
unfoldable pub reply_from : Task → Position → Attack → ℕ → Option Reply
reply_from t p a k = reply_answer (replier t a) (least (is_reply t p a) k ((replier t a).edge_count - k))
