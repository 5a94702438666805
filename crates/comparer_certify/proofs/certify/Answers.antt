-- The start is never lost and nothing is marked, or it is lost and marks stand while records are written.
use Rattle.std.proofs.Common.{◌≡◌, ◌∙◌}
use Rattle.outcome.specs.declared.Standing.TheVariants.{Lost}
use Rattle.listing.specs.Listing.{of_table, Searchable}
use Rattle.game_index.specs.Reading.{task_in}
use Rattle.comparer_certify_laws.specs.MarkedRounds.{halved}
use Rattle.comparer_certify_laws.specs.Marking.{rounds_for}
use Rattle.comparer_certify_laws.proofs.StillSearchable.{kept-prepared, searchable-kept}
use Rattle.comparer_certify.specs.RecordFields.{records_in}
use Rattle.comparer_certify.specs.CertifyAnswers.{certificate_in}
use Rattle.comparer_certify.proofs.RankedCertificates.{searchable, never_lost, lost}
use Rattle.comparer_certify.proofs.certify.Goals as goal
use Rattle.comparer_certify.proofs.certify.Goals.{After-rounds_of-rounds, After-prepare}

-- the rounds that are read are the start's
read : (c : After-rounds_of-rounds)
    → rounds_for c.args.n (task_in c.args.index.now.bytes).start c.args.table.now ≡ c.rounds_of-rounds.result
unfolding task_in
read c = rw (c.rounds_of-rounds.ensures, c.start.ensures)

-- positions can be looked up while marks stand
marked : (c : After-prepare) → Searchable (of_table c.args.n) c.prepare.new.table
marked c =
    rw c.prepare.ensures
    (searchable-kept (searchable c.args.index.now.of_a_task c.requires) (kept-prepared _ _ _ _ c.args.table.now))

pub rounds_of-rounds-requires : goal.rounds_of-rounds-requires
rounds_of-rounds-requires c = searchable c.args.index.now.of_a_task c.requires

pub write-requires : goal.write-requires
write-requires c = searchable c.args.index.now.of_a_task c.requires

pub returns-then-rounds : goal.returns-then-rounds
returns-then-rounds c =
    let is = read (goal.at.returns-then-rounds c).After-rounds_of-rounds in
    rw (← never_lost c.args.index.now.of_a_task c.requires (is ∙ c.if-rounds.true)) c.write.ensures

pub prepare-requires-clause-searchable : goal.prepare-requires-clause-searchable
prepare-requires-clause-searchable c = searchable c.args.index.now.of_a_task c.requires

pub prepare-requires-clause-bounds : goal.prepare-requires-clause-bounds
prepare-requires-clause-bounds c =
    let is = read (goal.at.prepare-requires-clause-bounds c).After-rounds_of-rounds in
    (lost c.args.index.now.of_a_task c.requires _ is c.if-rounds.false).small

pub write-answer-requires : goal.write-answer-requires
write-answer-requires c = marked (goal.at.write-answer-requires c).After-prepare

pub rescale-requires-clause-fitting : goal.rescale-requires-clause-fitting
rescale-requires-clause-fitting c = (marked (goal.at.rescale-requires-clause-fitting c).After-prepare).fitting

pub returns : goal.returns
returns c =
    let is = read (goal.at.returns c).After-rounds_of-rounds in
    let facts = lost c.args.index.now.of_a_task c.requires _ is c.if-rounds.false in
    let whole : records_in c.args.index.now.bytes Lost c.args.n c.prepare.new.table ≡ certificate_in c.args.index.now.bytes =
    rw c.prepare.ensures facts.certificate in
    let changes = c.rescale.ensures halved (λ w r h e. e) in
    record {
      answers = rw (← whole) c.write-answer.ensures.answers;
      restored = rw (changes, c.prepare.ensures) facts.restored;
      written = rw (← whole) c.write-answer.ensures.written;
    }
