-- The first attack with the edge that wins is the first from case number `from` on. The measure is how many cases are left.
use Rattle.std.proofs.Common.{length}
use Rattle.game_index.specs.Reading.{task_in}
use Rattle.game_wins.specs.Judgement.{judged_among}
use Rattle.game_wins.proofs.EdgeCases.{edge_cases, Searching}
use Rattle.game_wins.proofs.edge_win.Given as goal

abbrev pub invariant-loop-case : goal.invariant-loop-case
invariant-loop-case l =
    Searching (task_in l.index.bytes) l.p l.side l.k (judged_among l.losing l.list l.judge) l.others l.room l.kind l.challenge l.from

abbrev pub decreases-loop-case : goal.decreases-loop-case
decreases-loop-case l = length (edge_cases (task_in l.index.bytes) l.p l.side l.k l.from)
