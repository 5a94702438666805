-- The first attack of the side that wins is the first from edge `k` on.
use Rattle.std.proofs.Common.{◌≡◌}
use Rattle.fra.specs.Lists.{first}
use Rattle.game_index.specs.Reading.{task_in}
use Rattle.game_replies.specs.Winner.{wins_by}
use Rattle.game_wins.specs.Judgement.{judged_among}
use Rattle.game_wins.specs.Wins.{side_win}
use Rattle.game_wins.proofs.SideEdges.{attacks_within}
use Rattle.game_wins.proofs.side_win.Given as goal

abbrev pub invariant-loop-k : goal.invariant-loop-k
invariant-loop-k l =
    side_win (judged_among l.losing l.list l.judge) l.index.bytes l.p l.side
    ≡ first (wins_by (task_in l.index.bytes) (judged_among l.losing l.list l.judge) l.p)
    (attacks_within (task_in l.index.bytes) l.p l.side l.k l.k-end)
