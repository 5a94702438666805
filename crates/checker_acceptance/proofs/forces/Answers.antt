-- The attack is missing, or the walk through its replies decides. What follows the test of the attack names neither it nor its call,
-- so that a turned test is refused at its value.
use Rattle.std.proofs.Common.{◌≡◌, true, false}
use Rattle.fra.specs.Game.{is_attack}
use Rattle.outcome.specs.Check.{forces}
use Rattle.game_index.specs.Reading.{task_in, rules_in}
use Rattle.checker_acceptance.specs.RecordTests.{loss_of}
use Rattle.checker_acceptance.proofs.JudgedByRecords.{loss_won}
use Rattle.checker_acceptance.proofs.forces.Goals as goal

pub returns-then-not-there : goal.returns-then-not-there
unfolding forces
returns-then-not-there c =
    let b = c.args.index.now.bytes in
    let missing : is_attack (rules_in b) (task_in b) c.args.x.position c.args.a ≡ false = cc in
    rw missing

pub settled-requires : goal.settled-requires
settled-requires c = record {
  searchable = rw c.records_of-records.ensures c.requires.searchable;
  asked = rw c.of-challenge.ensures;
}

pub returns : goal.returns
returns c =
    let b = c.args.index.now.bytes in
    let there : is_attack (rules_in b) (task_in b) c.args.x.position c.args.a ≡ true = cc in
    rw (loss_won c.requires (loss_of c.args.x) c.args.a, there)
    (rw (c.records_of-records.ensures, c.of-challenge.ensures) at c.settled.ensures)
