-- The table can be searched all the while, and each entry gets its level of no round.
use Rattle.std.proofs.Common.{arith}
use Rattle.comparer_rank.proofs.PartWay.{part_start, part_searchable, part_end, zero_next}
use Rattle.comparer_rank.proofs.pass_zero.Goals as goal

pub loop-i-init : goal.loop-i-init
loop-i-init c = part_start c.args.index.now.of_a_task _ _ c.requires

pub mark_at_once-requires : goal.mark_at_once-requires
mark_at_once-requires c =
    ((part_searchable c.args.index.now.of_a_task _ _ c.requires c.loop-i.invariant).fitting, omega arith)

pub loop-i-preserved : goal.loop-i-preserved
loop-i-preserved c =
    rw c.mark_at_once.ensures (zero_next c.args.index.now.of_a_task c.requires c.loop-i.invariant (omega arith))

pub returns : goal.returns
returns c = part_end c.args.index.now.of_a_task _ _ c.requires c.loop-i.invariant (omega arith)
