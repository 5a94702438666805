-- Whether an attack wins, reply by reply. For any judgement of positions. Assumes nothing.
use Prim.Native.Nat.{ℕ, ◌+◌}
use mathlib.Core.Path.{◌≡◌}
use mathlib.Core.Bool.{Bool, true, ◌&&◌}
use mathlib.Core.List.{[]}
use Rattle.std.specs.Prelude.{Option, None, Some}
use Rattle.fra.specs.Lists.{all}
use Rattle.fra.specs.Game.{after}
use Rattle.fra.specs.declared.Position.{Position}
use Rattle.fra.specs.declared.Task.{Task}
use Rattle.fra.specs.declared.Attack.{Attack}
use Rattle.game_moves.specs.declared.rounds.Target.{Target}
use Rattle.game_replies.specs.Challenges.{challenge_of, after_reply}
use Rattle.game_replies.specs.ReplySearch.{replies_from, reply_from}
use Rattle.game_replies.specs.Winner.{wins_by}
use Rattle.game_replies.specs.declared.Challenge.{Challenge}
use Rattle.game_replies.specs.declared.Reply.{Reply}
use Rattle.game_replies.proofs.ReplySearch.{NextReply, reply_found, reply_missing, all-replies}
use Rattle.game_replies.proofs.AttackReplies.{after_is}

module _ (lost : Position → Bool) (t : Task) (p : Position) (a : Attack) where
  -- each reply from an edge on leads to a position that is judged lost
  unfoldable pub wins_from : ℕ → Bool
  wins_from k = all (λ j. lost (after t p a j)) (replies_from t p a k)

  module _ (k : ℕ) where
    -- none is left
    pub wins_none : replies_from t p a k ≡ [] → wins_from k ≡ true
    unfolding wins_from all
    wins_none e = rw e

    -- the next one, and those behind it
    pub wins-next : {c : Challenge} → c ≡ challenge_of t p a → {j : ℕ} {x : Target} → NextReply t p a k j x
        → wins_from k ≡ (lost (after_reply c p x) && wins_from (j + 1))
    unfolding wins_from all
    wins-next e {j} {x} h = rw (h.first, h.target, e, after_is t p a j)

    -- the same of the answer of the search
    module _ {c : Challenge} (asked : c ≡ challenge_of t p a) {o : Option Reply} (answer : o ≡ reply_from t p a k) where
      pub wins-unanswered : o ≡ None → wins_from k ≡ true
      wins-unanswered e = wins_none (reply_missing t p a k answer e)

      pub wins-answered : {x : Reply} → o ≡ Some x → wins_from k ≡ (lost (after_reply c p x.target) && wins_from (x.edge + 1))
      wins-answered e = wins-next asked (reply_found t p a k answer e)

  -- those from edge 0 on are all
  pub wins-all : wins_by t lost p a ≡ wins_from 0
  unfolding wins_from wins_by
  wins-all = rw (all-replies t p a)
