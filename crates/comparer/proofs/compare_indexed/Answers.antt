-- 11 with the table cleared, or what the positions found lead to.
use Rattle.std.proofs.Common.{◌∙◌}
use Rattle.comparer.proofs.Outcomes.{too_many, all_found, found-judged}
use Rattle.comparer.proofs.compare_indexed.Goals as goal

pub returns-in_default : goal.returns-in_default
returns-in_default c =
    rw (c.refuse.ensures.table_after, c.refuse.ensures.value)
    (too_many c.args.index.now.bytes c.args.certificate.now (rw c.in_default.is at c.explore.ensures))

pub settle-requires : goal.settle-requires
settle-requires c = all_found c.args.index.now.bytes (rw c.in-Ok.is at c.explore.ensures)

pub returns : goal.returns
returns c =
    found-judged c.args.index.now.bytes (rw c.in-Ok.is at c.explore.ensures) c.settle.new.table c.args.certificate.now
    (c.settle.auto.table ∙ c.explore.auto.table)
    c.judge.ensures
