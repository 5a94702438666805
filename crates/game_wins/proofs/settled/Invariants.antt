-- The attack wins if the replies from edge `from` on lead to lost positions. The measure is how many replies are left.
use Rattle.std.proofs.Common.{◌≡◌, length}
use Rattle.game_index.specs.Reading.{task_in}
use Rattle.game_replies.specs.Challenges.{attack_of}
use Rattle.game_replies.specs.ReplySearch.{replies_from}
use Rattle.game_replies.specs.Winner.{wins_by}
use Rattle.game_wins.specs.Judgement.{judged_among}
use Rattle.game_wins.proofs.SettledAttacks.{wins_from}
use Rattle.game_wins.proofs.settled.Given as goal

abbrev pub invariant-loop-reply : goal.invariant-loop-reply
invariant-loop-reply l =
    wins_by (task_in l.index.bytes) (judged_among l.losing l.list l.judge) l.p (attack_of l.challenge)
    ≡ wins_from (judged_among l.losing l.list l.judge) (task_in l.index.bytes) l.p (attack_of l.challenge) l.from

abbrev pub decreases-loop-reply : goal.decreases-loop-reply
decreases-loop-reply l = length (replies_from (task_in l.index.bytes) l.p (attack_of l.challenge) l.from)
