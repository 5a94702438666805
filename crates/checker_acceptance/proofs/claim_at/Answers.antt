-- Field by field.
use Rattle.outcome.specs.declared.Standing.TheVariants.{Lost}
use Rattle.checker_laws.specs.CertificateRecords.{loss_at}
use Rattle.checker_laws.proofs.CertificateForm.{records_fit}
use Rattle.checker_acceptance.proofs.claim_at.Goals as goal

pub position_at-position-requires : goal.position_at-position-requires
position_at-position-requires c = rw c.records_of-records.ensures (records_fit Lost _, c.requires)

pub rounds_at-requires : goal.rounds_at-requires
rounds_at-requires c = rw c.records_of-records.ensures (records_fit Lost _, c.requires)

pub returns : goal.returns
unfolding loss_at
returns c = rw (c.position_at-position.ensures, c.rounds_at.ensures, c.records_of-records.ensures)
