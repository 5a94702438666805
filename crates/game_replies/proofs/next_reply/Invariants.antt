-- The answer is that from edge `k` on.
use Rattle.std.proofs.Common.{◌≡◌}
use Rattle.fra.specs.declared.Position.{Position}
use Rattle.fra.specs.declared.Attack.{Attack}
use Rattle.game_index.specs.Reading.{task_in}
use Rattle.game_replies.specs.Challenges.{challenge_of}
use Rattle.game_replies.specs.ReplySearch.{reply_from}
use Rattle.game_replies.proofs.next_reply.Given as goal

abbrev pub invariant-loop-k : goal.invariant-loop-k
invariant-loop-k l =
    (p : Position) (a : Attack) → l.challenge ≡ challenge_of (task_in l.index.bytes) p a
    → reply_from (task_in l.index.bytes) p a l.from ≡ reply_from (task_in l.index.bytes) p a l.k
