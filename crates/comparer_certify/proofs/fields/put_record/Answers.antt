-- Standing by standing.
use Rattle.comparer_certify_laws.specs.EntryRecords.{record_at}
use Rattle.comparer_certify.proofs.fields.put_record.Goals as goal

pub returns-in-Kept : goal.returns-in-Kept
unfolding record_at
returns-in-Kept c =
    rw c.in-Kept.is (rw (c.kind_of.ensures, c.position_at-p.ensures, c.of_table.ensures) at c.put_head.ensures)
