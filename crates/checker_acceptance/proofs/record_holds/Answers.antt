-- Standing by standing.
use Rattle.checker_acceptance.proofs.record_holds.Goals as goal

pub position_at-requires : goal.position_at-requires
position_at-requires c =
    let given = rw c.in-Kept.is at c.requires in
    rw c.records_of-records.ensures (given.testable.searchable.fitting, given.i_bound)

pub kept_holds-requires : goal.kept_holds-requires
kept_holds-requires c = rw c.in-Kept.is at c.requires.testable

pub claim_at-requires : goal.claim_at-requires
claim_at-requires c = rw c.in-Lost.is at c.requires.i_bound

pub loss_holds-requires : goal.loss_holds-requires
loss_holds-requires c = rw c.in-Lost.is at c.requires.testable

pub returns-in-Kept : goal.returns-in-Kept
returns-in-Kept c =
    rw c.in-Kept.is (rw (c.position_at.ensures, c.records_of-records.ensures) at c.kept_holds.ensures)

pub returns-in-Lost : goal.returns-in-Lost
returns-in-Lost c = rw c.in-Lost.is (rw c.claim_at.ensures at c.loss_holds.ensures)
